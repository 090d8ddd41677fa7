-- What a granted open makes of the past, where its answer, its content and what its descriptor keeps are at hand.
use Rattle.std.proofs.Common.{ℕ, ◌≡◌, ◌≤◌, cond, List, length, filter, Option, Some, None, sym, ap, subst, ◌∙◌}
use Rattle.std.specs.List.{find}
use Rattle.locus_ids.specs.declared.config.Config.{Config}
use Rattle.locus_ids.specs.declared.ids.CallId.{CallId}
use Rattle.locus_ids.specs.declared.ids.EpochId.{EpochId}
use Rattle.trace_book.specs.declared.descriptor.OneVersion.{OneVersion}
use Rattle.trace_book.specs.declared.record.Record.TheVariants as rec
use Rattle.call_rules.specs.declared.answer.Answer.{Answer}
use Rattle.call_rules.specs.Opening.{is_steady}
use Rattle.tree_model.specs.Calls.{version_at}
use Rattle.tree_model.specs.Histories.{stamped_content}
use Rattle.lawful_trace.specs.Progress.{granted_answer}
use Rattle.promises.specs.Past.{Past, Another, CallSoFar, Epoch, epoch_at, kept_in}
use Rattle.promises.specs.After.{after, change, is_epoch, is_id, process_of}
use Rattle.audit_calls.specs.Rows.{with_grant}
use Rattle.audit_epochs.specs.Changes.{grants}
use Rattle.audit_past.specs.declared.trees.Opening.{Opening}
use Rattle.audit_past.proofs.Once.{granted_kept}

-- the tables after it
abbrev pub granted_tables : Past → EpochId → CallId → Opening → (process : ℕ) (content : List ℕ) → Option OneVersion → Answer → Past
granted_tables p e id o process content v a = record p {
  epochs = change (is_epoch e) (grants (record { inst = o.inst; call = id; process = process; mode = o.mode; file = o.file; ss = o.ss }) o.stamp content) p.epochs;
  calls = change (is_id id) (with_grant (record { mode = o.mode; epoch = e; inst = o.inst; steady = v }) a) p.calls;
  last = Another;
}

granted_so : (c : Config) (p : Past) (e : EpochId) (id : CallId) (request : ℕ) (o : Opening) (process : ℕ) (content : List ℕ) (v : Option OneVersion) (a : Answer) → length (filter (is_id id) p.calls) ≤ 1 →
    a ≡ granted_answer o.mode o.inst o.file o.stamp (kept_in p (epoch_at p e) o.file) → process ≡ process_of p id → content ≡ stamped_content p.history o.file o.stamp →
    ((k : CallSoFar) → find (is_id id) p.calls ≡ Some k → v ≡ cond (is_steady k.words) (version_at o.file o.stamp) None) →
    granted_tables p e id o process content v a ≡ after c (rec.Grant e id request o.inst o.mode o.file o.stamp o.ss) p
granted_so c p e id request o process content v a few given by holds keeps =
    ap (λ (b : Answer). granted_tables p e id o process content v b) given
    ∙ (ap (λ (m : ℕ). granted_tables p e id o m content v answer) by
    ∙ (ap (λ (bs : List ℕ). granted_tables p e id o (process_of p id) bs v answer) holds
    ∙ ap (λ (ks : List CallSoFar). record (granted_tables p e id o (process_of p id) (stamped_content p.history o.file o.stamp) v answer) { calls = ks })
    (granted_kept p.calls id o.mode e o.inst v o.file o.stamp answer few keeps)))
  where
    answer : Answer
    answer = granted_answer o.mode o.inst o.file o.stamp (kept_in p (epoch_at p e) o.file)

-- the same of tables that show the past
pub granted_view : (c : Config) (p q : Past) → p ≡ q → (e : EpochId) (id : CallId) (request : ℕ) (o : Opening) (process : ℕ) (content : List ℕ) (v : Option OneVersion) (a : Answer) (ts : List Epoch) (ks : List CallSoFar) → length (filter (is_id id) q.calls) ≤ 1 →
    a ≡ granted_answer o.mode o.inst o.file o.stamp (kept_in q (epoch_at q e) o.file) → process ≡ process_of q id → content ≡ stamped_content q.history o.file o.stamp →
    ((k : CallSoFar) → find (is_id id) p.calls ≡ Some k → v ≡ cond (is_steady k.words) (version_at o.file o.stamp) None) →
    ts ≡ (granted_tables p e id o process content v a).epochs → ks ≡ (granted_tables p e id o process content v a).calls →
    record p { epochs = ts; calls = ks; last = Another } ≡ after c (rec.Grant e id request o.inst o.mode o.file o.stamp o.ss) q
granted_view c p q same e id request o process content v a ts ks few given by holds keeps t k =
    ap (λ (us : List Epoch). record p { epochs = us; calls = ks; last = Another }) t
    ∙ (ap (λ (us : List CallSoFar). record (granted_tables p e id o process content v a) { calls = us }) k
    ∙ (granted_so c p e id request o process content v a (subst (λ (u : Past). length (filter (is_id id) u.calls) ≤ 1) (sym same) few)
    (given ∙ ap (λ (u : Past). granted_answer o.mode o.inst o.file o.stamp (kept_in u (epoch_at u e) o.file)) (sym same))
    (by ∙ ap (λ (u : Past). process_of u id) (sym same))
    (holds ∙ ap (λ (u : Past). stamped_content u.history o.file o.stamp) (sym same))
    keeps
    ∙ ap (after c (rec.Grant e id request o.inst o.mode o.file o.stamp o.ss)) same))
