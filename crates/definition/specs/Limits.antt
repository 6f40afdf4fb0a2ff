-- The limits of "Entry rules and the numbers given", and the sizes of `vregs`'s result tables. Assumes nothing.
use Rattle.std.specs.Prelude.{ℕ}
use Rattle.definition.specs.declared.TheConstants.{MAX_GROUP}
use Rattle.definition.specs.Types.{Room}

-- "At most 4,096 instructions, 512 blocks, 1,024 values, 256 value groups, 1,024 operands, hints and segments each, 4,096 uses, 32 classes, 8 banks, 256 registers; k to 65,535."
abbrev pub max_insts : ℕ
max_insts = 4096

abbrev pub max_blocks : ℕ
max_blocks = 512

abbrev pub max_values : ℕ
max_values = 1024

abbrev pub max_vgroups : ℕ
max_vgroups = 256

abbrev pub max_operands : ℕ
max_operands = 1024

abbrev pub max_hints : ℕ
max_hints = 1024

abbrev pub max_segments : ℕ
max_segments = 1024

abbrev pub max_uses : ℕ
max_uses = 4096

abbrev pub max_classes : ℕ
max_classes = 32

abbrev pub max_banks : ℕ
max_banks = 8

abbrev pub max_regs : ℕ
max_regs = 256

abbrev pub max_adjust : ℕ
max_adjust = 65535

-- "group size not 1 to 8", "vgroup not 2 to 8 known values": the width of a group
abbrev pub max_group : ℕ
max_group = MAX_GROUP

-- a slot is held to u16, a group index to u8, as in UseKind; a number of a sheet to u32
abbrev pub slots : ℕ
slots = 65536

abbrev pub indices : ℕ
indices = 256

abbrev pub words : ℕ
words = 4294967296

-- "The result tables of `vregs`: 4,096 registers and segments, 8,192 uses, 512 groups."
abbrev pub vregs_room : Room
vregs_room = record { registers = 4096; segments = 4096; uses = 8192; groups = 512 }
