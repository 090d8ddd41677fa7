-- Writers are alone, and commits are by grants of their site.
use Rattle.std.proofs.Common.{◌≡◌, ℕ, ◌==◌, ◌⊎◌, Bool, true, false, List, [], ◌∷◌, refl, sym, ◌∙◌, subst, inl, inr, arith}
use Rattle.std.proofs.lemmas.Bool.Decides.{nat_tests}
use Rattle.role_steps.proofs.of_plain_facts.Numbers.{equal, apart as test_other}
use Rattle.locus_ids.specs.declared.ids.EpochId.{EpochId}
use Rattle.locus_ids.specs.declared.ids.FileId.{FileId}
use Rattle.locus_ids.specs.declared.ids.Mode.{Mode}
use Rattle.locus_ids.specs.declared.config.Config.{Config}
use Rattle.commit_graph.specs.Grants.{is_read}
use Rattle.schedule_lines.specs.declared.line.ScheduleLine.{ScheduleLine}
use Rattle.trace_book.specs.declared.record.Record.{Record}
use Rattle.trace_book.specs.declared.record.Record.TheVariants as says
use Rattle.role_steps.specs.Views.{Told, Shown, Begins}
use Rattle.the_run.specs.Runs.{run_in}
use Rattle.site_laws.specs.Vectors.Written.{past_of, WasTold, Begun, WasBegun, GrantedRecord, Granted as WasGrantedBy, WasGranted, InstancesAgree}
use Rattle.site_laws.proofs.Packs.InstanceAgree.{run_agrees}
use Rattle.site_laws.specs.Locks.Going.{BegunAt, WasBegunAt, IsCommitter, RecordGoesOn, InstanceGoesOn, InstancesGoOn}
use Rattle.site_laws.specs.Locks.Locks.{IsOfAFile}
use Rattle.site_laws.specs.Locks.Grants.{WasGrantedAs, IsOver}
use Rattle.site_laws.proofs.Locks.Facts.{one_later, Later}
use Rattle.site_laws.proofs.Locks.FactsRun.{run_goes}
use Rattle.site_laws.specs.Packs.WriterGranting.{GrantedThere, GrantsAreApart, GrantsNameTheirSite}
use Rattle.site_laws.specs.Packs.WriterWriters.{WritersAreAlone, CommitRecord, Commits, IsGrantedHere, CommitsAreGrantedHere}
use Rattle.site_laws.proofs.Packs.WriterGranting.{run_apart}
use Rattle.site_laws.proofs.Packs.WriterPlacesRun.{run_sites}

-- ---- alone ----

true_false : (m : Mode) → is_read m ≡ true → is_read m ≡ false → ⊥
true_false m a b = two (sym a ∙ b)
  where
    two : true ≡ false → ⊥
    two e = cc

pub alone : (past : List Told) → GrantsAreApart past → WritersAreAlone past
alone past apart e file j k m n writes one other a b p q = by_test (j == k) refl
  where
    by_test : (t : Bool) → (j == k) ≡ t → j ≡ k
    by_test true t = equal j k t
    by_test false t = absurd (beside (apart e file j k m n (test_other j k t) one other a b))
      where
        beside : ((is_read m ≡ true) × (is_read n ≡ true)) ⊎ (IsOver past e j ⊎ IsOver past e k) → ⊥
        beside (inl r) = true_false m r.0 writes
        beside (inr (inl o)) = p o
        beside (inr (inr o)) = q o

pub run_alone : (c : Config) (lines : List ScheduleLine) → WritersAreAlone (past_of (run_in c lines).trace)
run_alone c lines = alone (past_of (run_in c lines).trace) (run_apart c lines)

-- ---- commits ----

commit_record : (older : List Told) (s : ℕ) (file : FileId) (r : Record) → RecordGoesOn older r → CommitRecord s file r → IsCommitter older s file
commit_record older s file (says.Commit of site stamp parents content) h k = subst (λ (f : FileId). IsCommitter older s f) k.0 (subst (λ (t : ℕ). IsCommitter older t of) k.1 h)
commit_record older s file _ h k = absurd k

commit_told : (older : List Told) (s : ℕ) (file : FileId) (x : Told) → InstanceGoesOn older x → Commits s file x → IsCommitter older s file
commit_told older s file (Shown r) h k = commit_record older s file r h k
commit_told older s file _ h k = absurd k

committer_later : (a b : List Told) → Later a b → (s : ℕ) (file : FileId) → IsCommitter a s file → IsCommitter b s file
committer_later a b l s file h = record { epoch = h.epoch; key = h.key; was_begun = l _ h.was_begun; granted = (h.granted.0, l _ h.granted.1) }

committed : (past : List Told) → InstancesGoOn past → (s : ℕ) (file : FileId) → WasTold (Commits s file) past → IsCommitter past s file
committed [] h s file k = absurd k
committed (x ∷ older) h s file (inl k) = committer_later older (x ∷ older) (one_later x older) s file (commit_told older s file x h.0 k)
committed (x ∷ older) h s file (inr k) = committer_later older (x ∷ older) (one_later x older) s file (committed older h.1 s file k)

begun_here : (s : ℕ) (e : EpochId) (key : ℕ) (file : FileId) (x : Told) → BegunAt s e key file x → Begun e key file x
begun_here s e key file (Begins t at inst of) h = (h.1, h.2, h.3)
begun_here s e key file _ h = absurd h

was_begun : (s : ℕ) (e : EpochId) (key : ℕ) (file : FileId) (past : List Told) → WasBegunAt past s e key file → WasBegun past e key file
was_begun s e key file [] h = absurd h
was_begun s e key file (x ∷ older) (inl h) = inl (begun_here s e key file x h)
was_begun s e key file (x ∷ older) (inr h) = inr (was_begun s e key file older h)

-- a grant has a mode, and names a site
record Whole (past : List Told) (e : EpochId) (key : ℕ) (file : FileId) : Type 0 where
  mode : Mode
  ss : ℕ
  granted : WasGrantedAs past e key file mode
  there : IsOfAFile mode → WasTold (GrantedThere e key ss) past

whole_record : (older : List Told) (e : EpochId) (key : ℕ) (file : FileId) (r : Record) → GrantedRecord e key file r → Whole (Shown r ∷ older) e key file
whole_record older e key file (says.Grant at call request inst m of stamp ss) h = record { mode = m; ss = ss; granted = inl (h.0, h.1, h.2, refl); there = λ it. inl (h.0, h.1, refl, it) }
whole_record older e key file _ h = absurd h

whole_told : (older : List Told) (e : EpochId) (key : ℕ) (file : FileId) (x : Told) → WasGrantedBy e key file x → Whole (x ∷ older) e key file
whole_told older e key file (Shown r) h = whole_record older e key file r h
whole_told older e key file _ h = absurd h

whole : (past : List Told) (e : EpochId) (key : ℕ) (file : FileId) → WasGranted past e key file → Whole past e key file
whole [] e key file h = absurd h
whole (x ∷ older) e key file (inl h) = whole_told older e key file x h
whole (x ∷ older) e key file (inr h) = let k : Whole older e key file = whole older e key file h in record { mode = k.mode; ss = k.ss; granted = inr k.granted; there = λ it. inr (k.there it) }

granted_here : (past : List Told) → InstancesAgree past → GrantsNameTheirSite past → (s : ℕ) (file : FileId) → IsCommitter past s file → IsGrantedHere past s file
granted_here past agree sites s file h =
    let same : file ≡ h.granted.0 = agree h.epoch h.key file h.granted.0 (was_begun s h.epoch h.key file past h.was_begun) h.granted.1 in
    let k : Whole past h.epoch h.key file = whole past h.epoch h.key file (subst (λ (f : FileId). WasGranted past h.epoch h.key f) (sym same) h.granted.1) in
    record {
      epoch = h.epoch;
      key = h.key;
      mode = k.mode;
      was_begun = h.was_begun;
      granted = k.granted;
      there = λ it. subst (λ (t : ℕ). WasTold (GrantedThere h.epoch h.key t) past) (sym (sites h.epoch h.key s k.ss file h.was_begun (k.there it))) (k.there it);
    }

pub run_commits : (c : Config) (lines : List ScheduleLine) → CommitsAreGrantedHere (past_of (run_in c lines).trace)
run_commits c lines s file k = granted_here (past_of (run_in c lines).trace) (run_agrees c lines) (run_sites c lines) s file (committed (past_of (run_in c lines).trace) (run_goes c lines) s file k)
