-- An accepted and prepared job is what the builder needs. Assumes nothing.
use Rattle.std.specs.Prelude.{ℕ, ◌+◌, ◌^◌, ◌≤◌, ◌<◌, ◌≡◌, true, List}
use Rattle.std.proofs.Common.{arith, ◌∙◌}
use Rattle.std.proofs.Math.Path.{sym}
use Rattle.words.specs.RowsAt.{rows_at}
use Rattle.words.specs.Words.{word_count, words_of}
use Rattle.definition.specs.Entry.{chained, not_after, entry, entry_tests}
use Rattle.definition.proofs.Entries.{lowest_none}
use Rattle.hints.specs.Hints.{hint_at}
use Rattle.job.specs.declared.Layout.{Layout}
use Rattle.job.specs.Job.{job_of}
use Rattle.set_part.specs.Part.{CountsRise}
use Rattle.job.specs.declared.work.WorkLayout.{WorkLayout}
use Rattle.job.specs.Regions.{max_work}
use Rattle.job.proofs.Parts.{heads_are}
use Rattle.entry.specs.Accepted.{Accepted, Prepared}
use Rattle.entry.proofs.Rows.{index_room, job_none, job_insts, use_passed}
use Rattle.virt_regs.specs.declared.OutLayout.{OutLayout}
use Rattle.virt_regs.specs.Encoding.{tables_end}
use Rattle.constraints.specs.Ready.{Ready}
use Rattle.constraints.proofs.Accepted.{ready_of}
use Rattle.pieces.specs.Maps.{MapApart}
use Rattle.conflicts.specs.Rounds.{TurnedApart}
use Rattle.steps.specs.Turns.{TurnRoom}
use Rattle.steps.specs.Builds.{Builds}
use Rattle.build.specs.Begun.{Begun, Onward}
use Rattle.build.specs.Rules.{accepted_masks, accepted_sizes, accepted_widths, use_fits}

module _ {s K : List ℕ} {lay : Layout} {wl : WorkLayout} {n : ℕ} (a : Accepted s K lay wl n) where
  -- the work slice
  pub ready : {w : ℕ} → max_work ≤ w → Prepared (words_of s) K lay wl → Ready (word_count s) w (words_of s) K lay wl
  unfolding entry
  ready {w} h p =
      let r = a.regions in
      let t = lowest_none (entry_tests (job_of (words_of s) lay)) (job_none a) in
      ready_of a.shaped.fits (index_room a w h) a.index (heads_are r ∙ a.insts ∙ sym (job_insts a))
      (omega (arith, r.mapping, r.starts, r.marks, r.turned)) (omega (arith, r.marks, r.turned)) (omega (arith, a.shaped.blocks))
      (omega (arith, r.starts, r.marks, r.turned)) p.starts t.0 t.1.1.0 t.1.1.1.1.1.0 a.rising.first

  pub map_apart : MapApart lay wl
  map_apart =
      let r = a.regions in
      record { index = omega (arith, r.nexts); starts = omega (arith, r.mapping); marks = omega (arith, r.mapping, r.starts); turned = omega (arith, r.mapping, r.starts, r.marks) }

  pub turn_room : {w : ℕ} → max_work ≤ w → TurnRoom w lay wl
  turn_room {w} h =
      let r = a.regions in
      record { starts = omega (arith, r.starts); marks = omega (arith, r.marks); room = omega (arith, r.turned); few = omega (arith, a.limited.uses) }

  pub turned_apart : TurnedApart lay wl
  turned_apart =
      let r = a.regions in
      record { index = omega (arith, r.nexts, r.mapping, r.starts, r.marks); mapping = omega (arith, r.mapping, r.starts, r.marks); starts = omega (arith, r.starts, r.marks) }

  pub counts_rise : CountsRise (words_of s) lay
  counts_rise = record { rise = a.rising.rise; within = a.rising.within }

  pub hints_sorted : chained not_after (rows_at hint_at (words_of s) lay.hints.at 3 lay.hints.n) ≡ true
  hints_sorted = a.sorted

  -- all that no step changes
  pub begun : {w : ℕ} → max_work ≤ w → Begun w (words_of s) lay wl
  begun h = record { accepted = job_none a; mapping = map_apart; turns = turn_room h; turned = turned_apart; hints = hints_sorted; counts = counts_rise }

  -- before the first set, whatever its first use
  pub onward_begin : {w : ℕ} (f : ℕ) → max_work ≤ w → Prepared (words_of s) K lay wl → Onward (word_count s) w (words_of s) K lay wl f
  onward_begin f h p = record { ready = ready h p; marks = λ u l m. p.marks u m }

  -- with result tables in o words
  pub builds : (o : ℕ) (ol : OutLayout) → tables_end ol ≤ o → ol.regs < 2 ^ 32 → ol.segs < 2 ^ 32 → ol.uses < 2 ^ 32 → ol.groups + 1 < 2 ^ 32 → Builds o (words_of s) lay ol
  builds o ol long regs segs uses groups =
      let e = job_none a in
      record {
        book = record {
          adjust = a.limited.adjust;
          move = a.booked.cheaper_than_move;
          load = a.booked.cheaper_than_load;
          indirect = a.booked.indirect;
          costs = a.booked.costs;
        };
        masks = accepted_masks (job_of (words_of s) lay) e;
        sizes = accepted_sizes (job_of (words_of s) lay) e;
        widths = accepted_widths (job_of (words_of s) lay) e;
        kinds = λ u l. use_fits (job_of (words_of s) lay) e _ _ (use_passed a u l);
        long = long;
        regs = regs;
        segs = segs;
        uses = uses;
        groups = groups;
      }
