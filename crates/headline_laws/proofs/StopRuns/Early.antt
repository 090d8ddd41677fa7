-- A stop before any disk call is refused: no instance is open, and no version that could be adopted has a thousand pages.
use Rattle.std.proofs.Common.{◌≡◌, ◌≤◌, ◌<◌, ℕ, ◌+◌, ◌==◌, Bool, true, false, cond, List, [], ◌∷◌, filter, length, Some, refl, sym, ◌∙◌, ap, subst, arith, inl, inr}
use Rattle.role_steps.proofs.of_plain_facts.Options.{none_some, some_same}
use Rattle.locus_ids.specs.declared.config.Config.{Config}
use Rattle.locus_ids.specs.declared.ids.EpochId.{EpochId}
use Rattle.locus_ids.specs.declared.ids.FileId.{FileId}
use Rattle.locus_ids.specs.declared.ids.Stamp.{Stamp}
use Rattle.trace_book.specs.declared.record.Record.{Record}
use Rattle.trace_book.specs.declared.record.Record.TheVariants as says
use Rattle.schedule_lines.specs.Cluster.{config_of}
use Rattle.commit_graph.specs.Versions.{content_of}
use Rattle.file_content.specs.Pages.{has_page, pages_of, pages_from}
use Rattle.disk_calls.specs.Versions.{blocks}
use Rattle.tree_model.specs.declared.instance.Instance.{Instance}
use Rattle.tree_model.specs.Epochs.{epoch_of}
use Rattle.tree_model.specs.Folds.{Trace}
use Rattle.tree_model.specs.Histories.{history}
use Rattle.tree_model.specs.Tree.{tree_of}
use Rattle.lawful_trace.specs.Disks.{Writing, calls_of_writing, writing_at, writer_of}
use Rattle.headline_laws.specs.WholeRuns.Wrote.{writing_adopted}
use Rattle.lawful_trace.specs.Samples.{epoch, first_of}
use Rattle.headline_laws.specs.StopRuns.Stops.{CutWhileUp, IsUnderway, Writes}
use Rattle.headline_laws.specs.StopRuns.Samples.{IsExact, opened, stop_before_any_call}
use Rattle.headline_laws.proofs.StopRuns.Sampled.{passed_is}

abbrev before : Trace
before = first_of 3 opened

abbrev c : Config
c = config_of stop_before_any_call.lines

-- ---- commits ----

no_instances : (g : ℕ) (b : Bool) → (0 == g) ≡ b → (tree_of c (epoch 1 1 1) g before).instances ≡ []
no_instances g true e = rw e refl
no_instances g false e = rw e refl

none_kept : (p : Instance → Bool) (xs : List Instance) (x : Instance) → xs ≡ [] → filter p xs ≡ x ∷ [] → ⊥
none_kept p xs x e q = never x (sym (ap (filter p) e) ∙ q)
  where
    never : (x : Instance) → ◌≡◌ {A = List Instance} [] (x ∷ []) → ⊥
    never x q = cc

its_epoch : (s : ℕ) (e : EpochId) → s ≡ 1 → epoch_of before s ≡ Some e → epoch 1 1 1 ≡ e
its_epoch s e own inside = some_same (epoch 1 1 1) e (subst (λ (t : ℕ). epoch_of before t ≡ Some e) own inside)

-- ---- adoptions ----

no_content : (f : FileId) (stamp : Stamp) → content_of (history c before) f stamp ≡ []
no_content f stamp = either _
  where
    either : (b : Bool) → ◌≡◌ {A = List ℕ} (cond b [] []) []
    either true = refl
    either false = refl

no_blocks : (pages : List ℕ) (f : FileId) (s : ℕ) (stamp : Stamp) → blocks (writing_adopted pages c before f s stamp) ≡ 0
no_blocks pages f s stamp = ap (λ (xs : List ℕ). blocks (writing_at c before f s (pages_of (length xs)) (filter (has_page pages) (pages_from 0 (pages_of (length xs)))))) (no_content f stamp)

few_calls : (w : Writing) (passed : ℕ) → blocks w ≤ 0 → passed < calls_of_writing w → passed ≡ 1000 → ⊥
few_calls w passed low inside e = by w.older (blocks w) low inside
  where
    by : (b : Bool) (n : ℕ) → n ≤ 0 → passed < n + (4 + cond b 2 0) → ⊥
    by true n l h = omega (arith, l, h, e)
    by false n l h = omega (arith, l, h, e)

none_of : (n : ℕ) → n ≡ 0 → n ≤ 0
none_of n e = omega (arith, e)

-- ---- the stop ----

none_underway : (pages : List ℕ) (r : Record) → writer_of r ≡ Some 1 → IsUnderway c before r → (w : Writing) → Writes pages c before r w → (passed : ℕ) → passed < calls_of_writing w → passed ≡ 1000 → ⊥
none_underway pages (says.Commit f s stamp parents content) own u w writes passed inside e =
    none_kept _ (tree_of c u.0.epoch f.group before).instances u.0.instance (subst (λ (at : EpochId). (tree_of c at f.group before).instances ≡ []) (its_epoch s u.0.epoch (some_same s 1 own) u.0.inside) (no_instances f.group (0 == f.group) refl)) u.0.one
none_underway pages (says.Adopt f s stamp) own u w writes passed inside e = few_calls w passed (none_of (blocks w) (ap blocks writes ∙ no_blocks pages f s stamp)) inside e
none_underway pages _ own u w writes passed inside e = absurd u

pub early_is_wrong : IsExact stop_before_any_call → ⊥
early_is_wrong h = by h.exact.cuts.0
  where
    by : CutWhileUp h.wrote c stop_before_any_call.lines before 7 1 false → ⊥
    by (inl a) = none_some 1 a.cut.own
    by (inr b) = none_underway (h.wrote (length before)) b.version b.cut.own b.underway b.cut.writing b.cut.writes b.cut.passed b.cut.cut.inside (passed_is _ b.arming _ b.cut.passed b.armed.armed refl b.cut.cut)
