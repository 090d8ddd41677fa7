-- Each wrong trace breaks its promise.
use Rattle.std.proofs.Common.{arith, ◌≡◌, ℕ, ◌⊎◌, Bool, true, false, cond, ◌||◌, [], ◌∷◌, Option, Some, None, refl, sym, ◌∙◌, ap, subst, inl, inr}
use Rattle.std.specs.List.{list_any}
use Rattle.role_steps.proofs.of_plain_facts.Options.{none_some, some_same}
use Rattle.role_steps.proofs.of_plain_facts.Tests.{false_true, true_false}
use Rattle.locus_ids.specs.declared.ids.CallId.{CallId}
use Rattle.locus_ids.specs.declared.ids.Stamp.{Stamp}
use Rattle.commit_graph.specs.Versions.{is_ancestor, same_stamp}
use Rattle.trace_book.specs.Same.{same_call}
use Rattle.trace_book.specs.declared.call.Call.TheVariants as call
use Rattle.trace_book.specs.declared.entry.Entry.{Entry}
use Rattle.trace_book.specs.declared.record.Record.{Record}
use Rattle.trace_book.specs.declared.record.Record.TheVariants as says
use Rattle.trace_book.specs.declared.reply.Reply.TheVariants as reply
use Rattle.call_rules.specs.declared.want.Want.TheVariants as want
use Rattle.call_rules.specs.Scripts.{gives_reply}
use Rattle.the_run.specs.Kept.{Among}
use Rattle.tree_model.specs.declared.accepted.Waiting.{Waiting}
use Rattle.tree_model.specs.Folds.{Trace}
use Rattle.tree_model.specs.Histories.{history}
use Rattle.lawful_trace.specs.Progress.{wants_next}
use Rattle.lawful_trace.specs.Samples.{at, caller, epoch, file, inst, stamp}
use Rattle.tree_laws.proofs.Names.{same_call_eq}
use Rattle.trace_book.specs.declared.operation.Op.TheVariants as op
use Rattle.trace_book.specs.declared.operation.Outcome.TheVariants as outcome
use Rattle.headline_laws.specs.Promises.Acknowledged.{IsNew, IsOfFormat, NewOnceAcknowledged, WasCommitted}
use Rattle.headline_laws.specs.Promises.Committing.{CommitsAreAsked, IsCommitAsked, commits}
use Rattle.headline_laws.specs.Promises.Holding.{CommitsStayHeld, HoldsAtLeast}
use Rattle.headline_laws.specs.Promises.Wrong.{commit_at_an_abort, of_first, site_that_falls_back, stamp_of_no_commit, until_written}

-- ---- at an abort ----

abbrev asked_abort : Trace
asked_abort = at 11 (says.Accept 1 1 (caller 1 1 4) (call.Abort 0)) ∷ until_written

-- a call that doesn't commit isn't the one
skip : (b : Bool) (w : Waiting) (o : Option Waiting) (a : Waiting) → commits w.words ≡ false → commits a.words ≡ true → cond b (Some w) o ≡ Some a → o ≡ Some a
skip true w o a not_so k e = absurd (true_false (sym k ∙ (ap (λ (x : Waiting). commits x.words) (sym (some_same w a e)) ∙ not_so)))
skip false w o a not_so k e = e

-- the one before it has made the file, and has its reply
made : (d : CallId) (w a : Waiting) (b : Bool) → same_call (caller 1 1 1) d ≡ b → cond b (Some w) None ≡ Some a → caller 1 1 1 ≡ d
made d w a true is e = same_call_eq (caller 1 1 1) d is
made d w a false is e = absurd (none_some a e)

pub commits_at_abort : CommitsAreAsked of_first commit_at_an_abort → ⊥
commits_at_abort k = by_want q.asked
  where
    q : IsCommitAsked of_first asked_abort k.0.epoch k.0.instance.grant.inst
    q = k.0.asked

    is : caller 1 1 1 ≡ q.call
    is = made q.call _ q.accepted (same_call (caller 1 1 1) q.call) refl
        (skip (same_call (caller 1 1 2) q.call) _ _ q.accepted refl q.kind
        (skip (same_call (caller 1 1 3) q.call) _ _ q.accepted refl q.kind
        (skip (same_call (caller 1 1 4) q.call) _ _ q.accepted refl q.kind q.named)))

    has_reply : gives_reply (wants_next of_first asked_abort q.call) ≡ true
    has_reply = subst (λ (d : CallId). gives_reply (wants_next of_first asked_abort d) ≡ true) is refl

    by_want : (wants_next of_first asked_abort q.call ≡ want.Do k.0.instance.grant.inst op.Commit) ⊎ (wants_next of_first asked_abort q.call ≡ want.Close k.0.instance.grant.inst) → ⊥
    by_want (inl e) = true_false (sym has_reply ∙ ap gives_reply e)
    by_want (inr e) = true_false (sym has_reply ∙ ap gives_reply e)

-- ---- back behind its commit ----

pub falls_back : CommitsStayHeld of_first site_that_falls_back → ⊥
falls_back k = false_true (subst (λ (s : Stamp). is_ancestor (history of_first site_that_falls_back) (file 0 2) (stamp 1 2) s ≡ true) (sym (some_same (stamp 1 1) h.holds h.held)) h.above)
  where
    h : HoldsAtLeast of_first site_that_falls_back 1 (file 0 2) (stamp 1 2)
    h = k.0 12 1 (file 0 2) (stamp 1 2) ((stamp 1 1) ∷ []) (104 ∷ 105 ∷ []) (inr (inr (inr (inl refl))))

-- ---- a stamp of no commit ----

abbrev tells_commit : Stamp → Record → Bool
tells_commit s (says.Commit f site z parents content) = same_stamp z s
tells_commit s _ = false

among_any : (p : Entry → Bool) (x : Entry) (xs : Trace) → p x ≡ true → Among x xs → list_any p xs ≡ true
among_any p x [] h k = absurd k
among_any p x (y ∷ ys) h (inl e) = first (p y) (subst (λ (z : Entry). p z ≡ true) e h)
  where
    first : (b : Bool) → b ≡ true → (b || list_any p ys) ≡ true
    first true q = refl
    first false q = absurd (false_true q)
among_any p x (y ∷ ys) h (inr k) = later (p y) (among_any p x ys h k)
  where
    later : (b : Bool) → list_any p ys ≡ true → (b || list_any p ys) ≡ true
    later true q = refl
    later false q = q

abbrev asked_commit : Trace
asked_commit =
    at 12 (says.Act (epoch 1 1 1) (inst 1 3) 2 op.Commit (outcome.Committed (stamp 1 2))) ∷
    at 11 (says.Accept 1 1 (caller 1 1 4) (call.Commit 0)) ∷
    until_written

pub tells_no_commit : NewOnceAcknowledged of_first stamp_of_no_commit → ⊥
tells_no_commit k = by_stands new.stands
  where
    new : IsNew of_first asked_commit stamp_of_no_commit (record { call = caller 1 1 4; site = 1; process = 1; epoch = Some (epoch 1 1 1); words = call.Commit 0 }) (stamp 1 2)
    new = k [] [] asked_commit 12 1 1 (caller 1 1 4) (reply.Committed (stamp 1 2)) (record { call = caller 1 1 4; site = 1; process = 1; epoch = Some (epoch 1 1 1); words = call.Commit 0 }) (stamp 1 2) refl refl refl (inl refl)

    by_stands : (WasCommitted asked_commit new.file (stamp 1 2) × HoldsAtLeast of_first stamp_of_no_commit 1 new.file (stamp 1 2)) ⊎ IsOfFormat new.file (stamp 1 2) → ⊥
    by_stands (inl w) = false_true (among_any (λ (r : Entry). tells_commit (stamp 1 2) r.what) (record { line = w.0.line; what = says.Commit new.file 1 (stamp 1 2) w.0.parents w.0.content }) asked_commit refl w.0.there)
    by_stands (inr f) = two (ap (λ (s : Stamp). s.n) f.1)
      where
        two : ◌≡◌ {A = ℕ} 2 0 → ⊥
        two e = omega (arith, e)
