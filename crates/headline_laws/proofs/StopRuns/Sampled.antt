-- The samples are right and wrong as they should be. All of it computes.
use Rattle.std.proofs.Common.{◌≡◌, ◌≤◌, ◌<◌, ℕ, ◌+◌, ◌==◌, Bool, true, false, [], ◌∷◌, Option, Some, None, refl, sym, ◌∙◌, ap, subst, arith, inl, inr, ◌⊎◌}
use Rattle.role_steps.proofs.of_plain_facts.Numbers.{apart_test}
use Rattle.role_steps.proofs.of_plain_facts.Options.{some_same}
use Rattle.role_steps.proofs.of_plain_facts.Tests.{true_false}
use Rattle.the_run.proofs.Boots.{at_each}
use Rattle.trace_book.specs.declared.record.Record.{Record}
use Rattle.trace_book.specs.declared.record.Record.TheVariants as says
use Rattle.schedule_lines.specs.Cluster.{config_of}
use Rattle.tree_model.specs.Folds.{Trace}
use Rattle.disk_calls.specs.Versions.{is_written}
use Rattle.lawful_trace.specs.Disks.{Armed, Writing, calls_of, cut_of, is_cut_next, writing_commit}
use Rattle.lawful_trace.specs.Samples.{Sample, first_of, at, file, stamp}
use Rattle.lawful_trace.specs.TreeRows.{MayCommit}
use Rattle.trace_book.specs.declared.record.StopCause.TheVariants as cause
use Rattle.locus_ids.specs.declared.config.Config.{Config}
use Rattle.headline_laws.specs.WholeRuns.Wrote.{disk_of}
use Rattle.headline_laws.specs.StopRuns.Stops.{AreExact, IsCutAt, IsCutAfter, IsCutBefore, IsCutBooting, IsCommitAsked, is_overrun}
use Rattle.headline_laws.specs.StopRuns.Samples.{IsExact, opened, committed, version_that_stays, version_that_is_lost, boot_that_fails, version_that_leave_took_away, disk_that_goes_on, boot_that_was_over}

-- once more calls were made than pass no other can be cut
too_many : (a b : Armed) (calls passed : ℕ) → ◌≡◌ {A = Option Armed} (Some a) (Some b) → calls_of a.arming < a.used → IsCutAt b calls passed → ⊥
too_many a b calls passed e over cut = never b.used passed (calls_of b.arming) (subst (λ (x : Armed). calls_of x.arming < x.used) (some_same a b e) over) cut.count
  where
    never : (used passed calls : ℕ) → calls < used → used + passed ≡ calls → ⊥
    never used passed calls h k = omega (arith, h, k)

-- the number of the cut call
pub passed_is : (a b : Armed) (calls passed : ℕ) → ◌≡◌ {A = Option Armed} (Some a) (Some b) → a.used ≡ 0 → IsCutAt b calls passed → passed ≡ calls_of a.arming
passed_is a b calls passed e none cut = so a.used passed (calls_of a.arming) none (subst (λ (x : Armed). x.used + passed ≡ calls_of x.arming) (sym (some_same a b e)) cut.count)
  where
    so : (used passed calls : ℕ) → used ≡ 0 → used + passed ≡ calls → passed ≡ calls
    so used passed calls z h = omega (arith, z, h)

-- ---- no disk goes on ----

abbrev over : Sample → ℕ → ℕ → Bool
over x n s = is_overrun (disk_of (λ k. []) (config_of x.lines) x.lines (first_of n x.trace) s).rest.armed

abbrev next_of : Trace → Option Record
next_of [] = None
next_of (r ∷ before) = Some r.what

-- no disk of another site is armed
heeded : (x : Sample) (n : ℕ) (next : Option Record) → (over x n 1 ≡ false) ⊎ (is_cut_next next 1 ≡ true) → ((s : ℕ) → (1 == s) ≡ false → over x n s ≡ false) → (s : ℕ) → over x n s ≡ true → is_cut_next next s ≡ true
heeded x n next first others s e = at_each 1 s (is_cut_next next s ≡ true) (λ i. own first i) (λ ne. absurd (true_false (sym e ∙ others s (apart_test 1 s ne))))
  where
    own : (over x n 1 ≡ false) ⊎ (is_cut_next next 1 ≡ true) → 1 ≡ s → is_cut_next next s ≡ true
    own (inl none) i = absurd (true_false (sym e ∙ subst (λ (u : ℕ). over x n u ≡ false) i none))
    own (inr stops) i = subst (λ (u : ℕ). is_cut_next next u ≡ true) i stops

-- so it is after the first so many records
after : (x : Sample) (n : ℕ) → (over x n 1 ≡ false) ⊎ (is_cut_next (next_of (first_of (n + 1) x.trace)) 1 ≡ true) → ((s : ℕ) → (1 == s) ≡ false → over x n s ≡ false) → (s : ℕ) → over x n s ≡ true → is_cut_next (next_of (first_of (n + 1) x.trace)) s ≡ true
after x n first others = heeded x n (next_of (first_of (n + 1) x.trace)) first others

-- ---- the right ones ----

-- nothing is adopted
by_none : {x : Sample} → AreExact (λ k. []) (config_of x.lines) x.lines x.trace → IsExact x
by_none e = record { wrote = λ k. []; exact = e }

pub stays_is_exact : IsExact version_that_stays
stays_is_exact = by_none (record {
  cuts = (inl (record { same_line = refl; arming = _; armed = record { armed = refl; fault_is = refl }; cut = record { own = refl; writing = _; writes = refl; passed = 3; cut = record { inside = omega arith; count = refl }; left = refl } }), (tt, (tt, (tt, (tt, (tt, (tt, (tt, tt))))))));
  heeds = (
    heeded version_that_stays 8 None (inl refl) (λ s e. rw e refl),
    (
      after version_that_stays 7 (inr refl) (λ s e. rw e refl),
      (
        after version_that_stays 6 (inl refl) (λ s e. rw e refl),
        (
          after version_that_stays 5 (inl refl) (λ s e. rw e refl),
          (
            after version_that_stays 4 (inl refl) (λ s e. rw e refl),
            (after version_that_stays 3 (inl refl) (λ s e. rw e refl), (after version_that_stays 2 (inl refl) (λ s e. refl), (after version_that_stays 1 (inl refl) (λ s e. refl), tt))),
          ),
        ),
      ),
    ),
  );
})

pub lost_is_exact : IsExact version_that_is_lost
lost_is_exact = by_none (record {
  cuts = (inr (record { arming = _; armed = record { armed = refl; fault_is = refl }; version = says.Commit (file 0 2) 1 (stamp 1 1) [] []; underway = (may, asked); place = refl; cut = record { own = refl; writing = _; writes = refl; passed = 3; cut = record { inside = omega arith; count = refl }; left = refl } }), (tt, (tt, (tt, (tt, (tt, (tt, tt)))))));
  heeds = (
    heeded version_that_is_lost 7 None (inl refl) (λ s e. rw e refl),
    (
      after version_that_is_lost 6 (inl refl) (λ s e. rw e refl),
      (
        after version_that_is_lost 5 (inl refl) (λ s e. rw e refl),
        (
          after version_that_is_lost 4 (inl refl) (λ s e. rw e refl),
          (after version_that_is_lost 3 (inl refl) (λ s e. rw e refl), (after version_that_is_lost 2 (inl refl) (λ s e. refl), (after version_that_is_lost 1 (inl refl) (λ s e. refl), tt))),
        ),
      ),
    ),
  );
})
  where
    may : MayCommit (config_of version_that_is_lost.lines) opened (file 0 2) 1 (stamp 1 1) [] []
    may = record { epoch = _; inside = refl; instance = _; one = refl; at = refl; owes = refl; same = refl; above = refl; numbered = refl }

    asked : IsCommitAsked (config_of version_that_is_lost.lines) opened (file 0 2) 1
    asked = record { epoch = _; inside = refl; instance = _; committing_is = refl; asked = inl (record { call = _; owned = refl; step = record { accepted = _; named = refl; made_in = refl }; asked = refl }) }

pub fails_is_exact : IsExact boot_that_fails
fails_is_exact = by_none (record {
  cuts = (record { asked = record { asked = refl }; arming = _; armed = record { armed = refl; fault_is = refl }; passed = 5; cut = record { inside = omega arith; count = refl } }, (tt, tt));
  heeds = (heeded boot_that_fails 2 None (inl refl) (λ s e. rw e refl), (after boot_that_fails 1 (inl refl) (λ s e. rw e refl), tt));
})

-- ---- the wrong ones ----

abbrev c : Config
c = config_of version_that_leave_took_away.lines

pub took_away_is_wrong : IsExact version_that_leave_took_away → ⊥
took_away_is_wrong h = by h.exact.cuts.0
  where
    by : IsCutAfter h.wrote c version_that_leave_took_away.lines (at 7 (says.Commit (file 0 2) 1 (stamp 1 1) [] [])) (first_of 6 committed) 7 1 false ⊎ IsCutBefore h.wrote c version_that_leave_took_away.lines committed 7 1 false → ⊥
    by (inl a) = true_false (sym a.cut.left ∙ (ap (λ (w : Writing). is_written w (cut_of a.arming.arming) a.cut.passed) a.cut.writes ∙ (ap (is_written (writing_commit c (first_of 6 committed) (file 0 2) 1) (cut_of a.arming.arming)) (passed_is _ a.arming _ a.cut.passed a.armed.armed refl a.cut.cut)
        ∙ ap (λ (b : Armed). is_written (writing_commit c (first_of 6 committed) (file 0 2) 1) (cut_of b.arming) 3) (sym (some_same _ a.arming a.armed.armed)))))
    by (inr b) = too_many _ b.arming _ b.cut.passed b.armed.armed (omega arith) b.cut.cut

pub goes_on_is_wrong : IsExact disk_that_goes_on → ⊥
goes_on_is_wrong h = true_false (sym (h.exact.heeds.0 1 refl))

pub over_is_wrong : IsExact boot_that_was_over → ⊥
over_is_wrong h = by h.exact.cuts.0
  where
    by : IsCutBooting h.wrote (config_of boot_that_was_over.lines) boot_that_was_over.lines (at 3 (says.Stopped 1 cause.Asked) ∷ []) 5 1 true → ⊥
    by b = never b.passed b.cut.inside (passed_is _ b.arming _ b.passed b.armed.armed refl b.cut)
      where
        never : (passed : ℕ) → passed < 6 → passed ≡ 6 → ⊥
        never passed l e = omega (arith, l, e)
