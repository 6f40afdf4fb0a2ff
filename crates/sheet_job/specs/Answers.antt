-- What the reader says of a sheet gives the definition's answer to it. Assumes nothing.
use Rattle.std.specs.Prelude.{◌≡◌, refl, List, [], ◌∷◌, map, Bool, true, false, cond, ◌&&◌, ◌||◌, ℕ, zero, suc, ◌+◌, ◌≤◌, ◌<◌, length, get_or, replicate, ltb, Ok, Err}
use Rattle.std.proofs.Common.{sym, ap, ◌∙◌, arith, ltb-true, lt-ltb}
use Rattle.std.proofs.lemmas.Bool.{false≢true, lt-leb}
use Rattle.std.proofs.Math.Option.{Option, none, some}
use Rattle.std.proofs.lemmas.List.{length-replicate}
use Rattle.definition.specs.declared.Value.{Value}
use Rattle.definition.specs.declared.Refusal.{Refusal}
use Rattle.definition.specs.declared.Refusal.TheVariants.{NotARecord, OverALimit, BadBook, BadFunction, BadHint, BadSegment, BadUse}
use Rattle.definition.specs.Types.{Segment, Job, Room, Out, refused}
use Rattle.definition.specs.Place.{total}
use Rattle.definition.specs.Build.{Result}
use Rattle.definition.specs.Entry.{conj, every, limit_tests, limits_ok, book_ok, vgroup_tests, vgroup_ok, function_tests, function_ok, lowest_of, entry, answer_to, answer, hints_ok, segments_ok, uses_ok}
use Rattle.definition.specs.Text.{◌>>=◌}
use Rattle.definition.specs.JobSheet.{Word as Named, opt, bank, class, reg, block, value, vgroup, operand, hint, seg, use', end, word_number, Record, only, bank_of, class_data_of, memory_of, block_data_of, value_data_of, vgroup_of, operand_of, hint_of, segments_of, next, among, ordered, job_of_records, answer_or_one}
use Rattle.definition.specs.Conversion.{rec}
use Rattle.job.specs.Job.{raw_job}
use Rattle.sheet_rules.specs.Places.{limits, limit_of, table_words}
use Rattle.sheet.specs.Machine.{Answer}
use Rattle.sheet.specs.declared.first.SheetError.TheVariants.{Malformed, TooMany}
use Rattle.sheet_laws.specs.Words.{none_some}
use Rattle.sheet_laws.specs.Table.{Filled, filled, fill, blank}
use Rattle.sheet_laws.specs.Agree.{outcome}
use Rattle.sheet_laws.specs.Counts.{TooMany as Crowded, zero_count, fill_over}
use Rattle.sheet_laws.specs.Sheets.{On, Sound, ordered_first}
use Rattle.sheet_job.specs.Fixed.{fixed_layout}
use Rattle.sheet_job.specs.Decode.{Pairs}
use Rattle.sheet_job.specs.Groups.{AlikeIf, AlikeGroup}
use Rattle.sheet_job.specs.Jobs.{Alike, table_job}

-- ---- a test that fails

pub conj_at : (bs : List Bool) (i : ℕ) → get_or bs i true ≡ false → conj bs ≡ false
unfolding conj
conj_at [] i e = absurd (false≢true (sym e))
conj_at (b ∷ bs) zero e = rw e
conj_at (b ∷ bs) (suc i) e = go b (conj_at bs i e)
  where
    go : (t : Bool) → conj bs ≡ false → t && conj bs ≡ false
    go true h = h
    go false h = refl

-- ---- value groups of more than eight members

-- one of them has more than eight
pub long_in : List (List Value) → Bool
long_in [] = false
long_in (g ∷ gs) = ltb 8 (length g) || long_in gs

same_groups : (xs ys : List (List Value)) → Pairs AlikeGroup xs ys → long_in ys ≡ false → xs ≡ ys
unfolding long_in
same_groups [] [] p e = refl
same_groups [] (y ∷ ys) p e = absurd p
same_groups (x ∷ xs) [] p e = absurd p
same_groups (x ∷ xs) (y ∷ ys) p e = go (ltb 8 (length y)) p.0 e (same_groups xs ys p.1)
  where
    go : (t : Bool) → AlikeIf t x y → t || long_in ys ≡ false → (long_in ys ≡ false → xs ≡ ys) → x ∷ xs ≡ y ∷ ys
    go true a h ih = absurd (false≢true (sym h))
    go false a h ih = ap (λ (g : List Value). g ∷ xs) a ∙ ap (λ (l : List (List Value)). y ∷ l) (ih h)

long_groups : (xs ys : List (List Value)) → Pairs AlikeGroup xs ys → long_in ys ≡ true → long_in xs ≡ true
unfolding long_in
long_groups [] [] p e = e
long_groups [] (y ∷ ys) p e = absurd p
long_groups (x ∷ xs) [] p e = absurd p
long_groups (x ∷ xs) (y ∷ ys) p e = go (ltb 8 (length y)) p.0 e (long_groups xs ys p.1)
  where
    behind : (t : Bool) → long_in xs ≡ true → t || long_in xs ≡ true
    behind true h = refl
    behind false h = h

    go : (t : Bool) → AlikeIf t x y → t || long_in ys ≡ true → (long_in ys ≡ true → long_in xs ≡ true) → ltb 8 (length x) || long_in xs ≡ true
    go true a h ih = rw (lt-ltb 8 (length x) a.0)
    go false a h ih = behind (ltb 8 (length x)) (ih h)

same_length : (xs ys : List (List Value)) → Pairs AlikeGroup xs ys → length xs ≡ length ys
same_length [] [] p = refl
same_length [] (y ∷ ys) p = absurd p
same_length (x ∷ xs) [] p = absurd p
same_length (x ∷ xs) (y ∷ ys) p = ap suc (same_length xs ys p.1)

long_refused : (job : Job) (gs : List (List Value)) → long_in gs ≡ true → every (vgroup_ok job) gs ≡ false
unfolding long_in every vgroup_ok
long_refused job [] e = absurd (false≢true e)
long_refused job (g ∷ gs) e = go (ltb 8 (length g)) refl e (long_refused job gs)
  where
    last : (t : Bool) → every (vgroup_ok job) gs ≡ false → t && every (vgroup_ok job) gs ≡ false
    last true h = h
    last false h = refl

    go : (t : Bool) → ltb 8 (length g) ≡ t → t || long_in gs ≡ true → (long_in gs ≡ true → every (vgroup_ok job) gs ≡ false) → conj (vgroup_tests job g) && every (vgroup_ok job) gs ≡ false
    go true q h ih = ap (λ (t : Bool). t && every (vgroup_ok job) gs) (conj_at (vgroup_tests job g) 1 (lt-leb (length g) 8 (ltb-true 8 (length g) q)))
    go false q h ih = last (conj (vgroup_tests job g)) (ih h)

function_refused : (job : Job) → long_in job.vgroups ≡ true → function_ok job ≡ false
unfolding function_ok
function_refused job e = conj_at (function_tests job) 2 (long_refused job job.vgroups e)

-- a job of such a group is refused by number 4, or by 2 or 3 where these refuse it
refused_by : Bool → Bool → Refusal
refused_by l b = cond l (cond b BadFunction BadBook) OverALimit

long_entry : (job : Job) → long_in job.vgroups ≡ true → entry job ≡ some (refused_by (limits_ok job) (book_ok job))
unfolding entry lowest_of refused_by
long_entry job e =
    ap (λ (t : Bool). lowest_of ((limits_ok job, OverALimit) ∷ (book_ok job, BadBook) ∷ (t, BadFunction) ∷ rest)) f ∙ go (limits_ok job) (book_ok job)
  where
    rest : List (Bool × Refusal)
    rest = (hints_ok job, BadHint) ∷ (segments_ok job, BadSegment) ∷ (every (uses_ok job) job.segments, BadUse) ∷ []

    f : function_ok job ≡ false
    f = function_refused job e

    go : (l b : Bool) → cond l (cond b (some BadFunction) (some BadBook)) (some OverALimit) ≡ some (cond l (cond b BadFunction BadBook) OverALimit)
    go true true = refl
    go true false = refl
    go false b = refl

with_groups : Job → List (List Value) → Job
with_groups job gs = record {
  options = job.options;
  banks = job.banks;
  classes = job.classes;
  memory = job.memory;
  blocks = job.blocks;
  values = job.values;
  vgroups = gs;
  operands = job.operands;
  hints = job.hints;
  segments = job.segments;
}

limits_groups : (job : Job) (gs : List (List Value)) → length gs ≡ length job.vgroups → limits_ok (with_groups job gs) ≡ limits_ok job
unfolding limits_ok with_groups
limits_groups job gs e = rw e

book_groups : (job : Job) (gs : List (List Value)) → book_ok (with_groups job gs) ≡ book_ok job
unfolding book_ok with_groups
book_groups job gs = refl

alike_groups : (j k : Job) → Alike j k → (gs : List (List Value)) → with_groups j gs ≡ with_groups k gs
unfolding with_groups
alike_groups j k a gs =
    λ i. record {
      options = a.options i;
      banks = a.banks i;
      classes = a.classes i;
      memory = a.memory i;
      blocks = a.blocks i;
      values = a.values i;
      vgroups = gs;
      operands = a.operands i;
      hints = a.hints i;
      segments = a.segments i;
    }

groups_own : (job : Job) → with_groups job job.vgroups ≡ job
unfolding with_groups
groups_own job = refl

-- without such groups they are one job
pub alike_same : (j k : Job) → Alike j k → long_in k.vgroups ≡ false → j ≡ k
alike_same j k a e =
    let g : j.vgroups ≡ k.vgroups = same_groups j.vgroups k.vgroups a.vgroups e in
    sym (groups_own j) ∙ ap (λ (gs : List (List Value)). with_groups j gs) g ∙ alike_groups j k a k.vgroups ∙ groups_own k

-- THE LAW of jobs that are alike: the entry tests say one thing of them
pub alike_entry : (j k : Job) → Alike j k → entry j ≡ entry k
alike_entry j k a = go (long_in k.vgroups) refl
  where
    go : (t : Bool) → long_in k.vgroups ≡ t → entry j ≡ entry k
    go false e = ap entry (alike_same j k a e)
    go true e =
        let n : length k.vgroups ≡ length j.vgroups = sym (same_length j.vgroups k.vgroups a.vgroups) in
        let w : with_groups j k.vgroups ≡ k = alike_groups j k a k.vgroups ∙ groups_own k in
        let l : limits_ok j ≡ limits_ok k = sym (limits_groups j k.vgroups n) ∙ ap limits_ok w in
        let b : book_ok j ≡ book_ok k = sym (book_groups j k.vgroups) ∙ ap book_ok w in
        long_entry j (long_groups j.vgroups k.vgroups a.vgroups e)
        ∙ ap (λ (t : Bool). some (refused_by t (book_ok j))) l
        ∙ ap (λ (t : Bool). some (refused_by (limits_ok k) t)) b
        ∙ sym (long_entry k e)

-- and those that pass are one job
pub accepted_same : (j k : Job) → Alike j k → entry k ≡ none → j ≡ k
accepted_same j k a e = go (long_in k.vgroups) refl
  where
    go : (t : Bool) → long_in k.vgroups ≡ t → j ≡ k
    go false q = alike_same j k a q
    go true q = absurd (none_some (sym e ∙ long_entry k q))

-- so they have one answer
pub alike_answer : (j k : Job) (room : Room) → Alike j k → answer j room ≡ answer k room
unfolding answer answer_to
alike_answer j k room a = go (entry k) refl
  where
    go : (o : Option Refusal) → entry k ≡ o → answer_to (entry j) j room ≡ answer_to (entry k) k room
    go none e = ap (λ (x : Job). answer x room) (accepted_same j k a e)
    go (some r) e = ap (λ (o : Option Refusal). answer_to o j room) (alike_entry j k a ∙ e) ∙ sym (ap (λ (o : Option Refusal). answer_to o k room) e)

-- ---- a kind of record over its limit

length-map : {A : Type 0} (f : List ℕ → A) (xs : List (List ℕ)) → length (map f xs) ≡ length xs
length-map f [] = refl
length-map f (x ∷ xs) = ap suc (length-map f xs)

seg_count : (rs : List Record) → length (segments_of rs).made ≡ length (only seg rs)
unfolding segments_of only
seg_count [] = refl
seg_count (r ∷ rs) = by r.word (seg_count rs)
  where
    by : (w : Named) → length (segments_of rs).made ≡ length (only seg rs) → length (segments_of (rec w r.fields ∷ rs)).made ≡ length (only seg (rec w r.fields ∷ rs))
    by opt h = h
    by bank h = h
    by class h = h
    by reg h = h
    by block h = h
    by value h = h
    by vgroup h = h
    by operand h = h
    by hint h = h
    by seg h = ap suc h
    by use' h = h
    by end h = h

-- the uses of all segments, and those before the first
use_count : (rs : List Record) → total (λ (s : Segment). length s.uses) (segments_of rs).made + length (segments_of rs).waiting ≡ length (only use' rs)
unfolding segments_of only total
use_count [] = refl
use_count (r ∷ rs) = by r.word (use_count rs)
  where
    by : (w : Named) → total (λ (s : Segment). length s.uses) (segments_of rs).made + length (segments_of rs).waiting ≡ length (only use' rs)
        → total (λ (s : Segment). length s.uses) (segments_of (rec w r.fields ∷ rs)).made + length (segments_of (rec w r.fields ∷ rs)).waiting ≡ length (only use' (rec w r.fields ∷ rs))
    by opt h = h
    by bank h = h
    by class h = h
    by reg h = h
    by block h = h
    by value h = h
    by vgroup h = h
    by operand h = h
    by hint h = h
    by seg h = omega (arith, h)
    by use' h = omega (arith, h)
    by end h = h

-- no use comes before the first segment
pub none_waits : (rs : List Record) (ws : List Named) → among use' ws ≡ false → ordered ws rs ≡ true → (segments_of rs).waiting ≡ []
unfolding segments_of
none_waits [] ws f e = refl
none_waits (r ∷ rs) ws f e = by r.word (ordered_first ws r rs e).0 (ordered_first ws r rs e).1 (none_waits rs)
  where
    by : (w : Named) → among w ws ≡ true → ordered (next w) rs ≡ true → ((vs : List Named) → among use' vs ≡ false → ordered vs rs ≡ true → (segments_of rs).waiting ≡ []) → (segments_of (rec w r.fields ∷ rs)).waiting ≡ []
    by opt a o ih = ih (next opt) refl o
    by bank a o ih = ih (next bank) refl o
    by class a o ih = ih (next class) refl o
    by reg a o ih = ih (next reg) refl o
    by block a o ih = ih (next block) refl o
    by value a o ih = ih (next value) refl o
    by vgroup a o ih = ih (next vgroup) refl o
    by operand a o ih = ih (next operand) refl o
    by hint a o ih = ih (next hint) refl o
    by seg a o ih = refl
    by use' a o ih = absurd (false≢true (sym f ∙ a))
    by end a o ih = ih (next end) refl o

-- the test of a kind's limit fails
over_limits : (rs : List Record) → ordered (opt ∷ []) rs ≡ true → (w : Named) → 1 ≤ word_number w → word_number w ≤ 10 → limit_of (word_number w) < length (only w rs) → limits_ok (job_of_records rs) ≡ false
unfolding limits_ok job_of_records limit_of limits
over_limits rs o opt a b h = absurd (omega (arith, a))
over_limits rs o bank a b h = conj_at (limit_tests (job_of_records rs)) 9 (lt-leb (length (map bank_of (only bank rs))) 8 (omega (arith, h, length-map bank_of (only bank rs))))
over_limits rs o class a b h = conj_at (limit_tests (job_of_records rs)) 8 (lt-leb (length (map class_data_of (only class rs))) 32 (omega (arith, h, length-map class_data_of (only class rs))))
over_limits rs o reg a b h = conj_at (limit_tests (job_of_records rs)) 10 (lt-leb (length (map memory_of (only reg rs))) 256 (omega (arith, h, length-map memory_of (only reg rs))))
over_limits rs o block a b h = conj_at (limit_tests (job_of_records rs)) 1 (lt-leb (length (map block_data_of (only block rs))) 512 (omega (arith, h, length-map block_data_of (only block rs))))
over_limits rs o value a b h = conj_at (limit_tests (job_of_records rs)) 2 (lt-leb (length (map value_data_of (only value rs))) 1024 (omega (arith, h, length-map value_data_of (only value rs))))
over_limits rs o vgroup a b h = conj_at (limit_tests (job_of_records rs)) 3 (lt-leb (length (map vgroup_of (only vgroup rs))) 256 (omega (arith, h, length-map vgroup_of (only vgroup rs))))
over_limits rs o operand a b h = conj_at (limit_tests (job_of_records rs)) 4 (lt-leb (length (map operand_of (only operand rs))) 1024 (omega (arith, h, length-map operand_of (only operand rs))))
over_limits rs o hint a b h = conj_at (limit_tests (job_of_records rs)) 5 (lt-leb (length (map hint_of (only hint rs))) 1024 (omega (arith, h, length-map hint_of (only hint rs))))
over_limits rs o seg a b h = conj_at (limit_tests (job_of_records rs)) 6 (lt-leb (length (segments_of rs).made) 1024 (omega (arith, h, seg_count rs)))
over_limits rs o use' a b h =
    let z : length (segments_of rs).waiting ≡ 0 = ap length (none_waits rs (opt ∷ []) refl o) in
    let u : total (λ (s : Segment). length s.uses) (segments_of rs).made + length (segments_of rs).waiting ≡ length (only use' rs) = use_count rs in
    conj_at (limit_tests (job_of_records rs)) 7 (lt-leb (total (λ (s : Segment). length s.uses) (segments_of rs).made) 4096 (omega (arith, h, u, z)))
over_limits rs o end a b h = absurd (omega (arith, b))

pub over_entry : (job : Job) → limits_ok job ≡ false → entry job ≡ some OverALimit
unfolding entry lowest_of
over_entry job e = ap (λ (t : Bool). cond t (lowest_of rest) (some OverALimit)) e
  where
    rest : List (Bool × Refusal)
    rest =
        (book_ok job, BadBook) ∷ (function_ok job, BadFunction) ∷ (hints_ok job, BadHint)
        ∷ (segments_ok job, BadSegment) ∷ (every (uses_ok job) job.segments, BadUse) ∷ []

over_answer : (job : Job) (room : Room) → limits_ok job ≡ false → answer job room ≡ refused OverALimit
unfolding answer answer_to
over_answer job room e = ap (λ (o : Option Refusal). answer_to o job room) (over_entry job e)

-- ---- the reader's answer

-- what the reader says, and what its table stands for
abbrev pub answered : Answer → List ℕ → Room → Out Result
answered (Ok tt) T room = answer (raw_job T (fixed_layout T)) room
answered (Err Malformed) T room = refused NotARecord
answered (Err TooMany) T room = refused OverALimit

abbrev pub the : Option Filled → Filled
the none = blank 0
the (some f) = f

pub full : (n : ℕ) → n ≡ table_words → (rs : List Record) → Sound rs → (fill (blank n) rs).over ≡ true → limits_ok (job_of_records rs) ≡ false
full n e rs s v =
    let l : length {A = ℕ} (replicate n 0) ≡ table_words = length-replicate n 0 ∙ e in
    let c : Crowded (replicate n 0) rs = fill_over rs (blank n) l refl v in
    over_limits rs s.order c.word c.low c.high (omega (arith, c.more, zero_count n e (word_number c.word)))

-- by what the reader says and the records of the sheet, if it is one
pub said : (n : ℕ) → n ≡ table_words → (room : Room) (a : Answer) (o : List ℕ) (m : Option (List Record)) → On Sound m → outcome a o ≡ (m >>= λ rs. some (fill (blank n) rs))
    → answered a o room ≡ answer_or_one (m >>= λ rs. some (job_of_records rs)) room
said n e room (Err Malformed) o none s q = refl
said n e room (Err Malformed) o (some rs) s q = absurd (none_some q)
said n e room (Ok tt) o none s q = absurd (none_some (sym q))
said n e room (Err TooMany) o none s q = absurd (none_some (sym q))
said n e room (Ok tt) o (some rs) s q =
    let i : filled false o ≡ fill (blank n) rs = ap the q in
    ap (λ (f : Filled). answer (raw_job f.out (fixed_layout f.out)) room) i
    ∙ alike_answer (raw_job (fill (blank n) rs).out (fixed_layout (fill (blank n) rs).out)) (job_of_records rs) room (table_job n e rs s (sym (ap (λ (f : Filled). f.over) i)))
said n e room (Err TooMany) o (some rs) s q =
    let i : filled true o ≡ fill (blank n) rs = ap the q in
    sym (over_answer (job_of_records rs) room (full n e rs s (sym (ap (λ (f : Filled). f.over) i))))
