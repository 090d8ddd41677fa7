-- A version of which a call is cut: it is among those that the past has underway, or it is told by the last record.
use Rattle.std.proofs.Common.{◌≡◌, ℕ, ◌+◌, ◌-◌, ◌<◌, Bool, true, false, not, cond, ◌&&◌, ◌||◌, [], ◌∷◌, ◌++◌, length, filter, Some, append-nil, refl, sym, ap, subst, ◌∙◌, inl, inr, ◌⊎◌, arith}
use Rattle.std.specs.Prelude.{nat_lt, nat_le, fold}
use Rattle.std.specs.List.{find}
use Rattle.std.proofs.lemmas.Bool.Decides.{nat_tests}
use Rattle.locus_ids.specs.declared.config.Config.{Config}
use Rattle.locus_ids.specs.declared.ids.CallId.{CallId}
use Rattle.locus_ids.specs.declared.ids.EpochId.{EpochId}
use Rattle.locus_ids.specs.declared.ids.FileId.{FileId}
use Rattle.locus_ids.specs.declared.ids.Serial.{Serial}
use Rattle.trace_book.specs.Same.{same_serial}
use Rattle.trace_book.specs.declared.operation.Op.TheVariants as op
use Rattle.call_rules.specs.declared.want.Want.{Want}
use Rattle.call_rules.specs.declared.want.Want.TheVariants as want
use Rattle.disk_calls.specs.Versions.{blocks, is_written, new_gate}
use Rattle.tree_model.specs.declared.instance.Instance.{Instance as TreeInstance}
use Rattle.tree_model.specs.Epochs.{is_in, epoch_of}
use Rattle.tree_model.specs.Files.{committing}
use Rattle.tree_model.specs.Folds.{Trace}
use Rattle.lawful_trace.specs.Disks.{Armed, Writing as FoldWriting, calls_of_writing, cut_of, calls_of as calls_armed}
use Rattle.lawful_trace.specs.Progress.{answers, wants_after, wants_next}
use Rattle.lawful_trace.specs.Tables.{call_of_act, call_of_release}
use Rattle.lawful_trace.specs.TreeRows.{IsCallIn, IsStepOf}
use Rattle.promises.specs.Past.{Past, Epoch, Instance, CallSoFar, epoch_at, is_writer, asks}
use Rattle.promises.specs.After.{is_epoch, is_home_of, is_id, writers_of}
use Rattle.promises.specs.Rows.{is_asked}
use Rattle.promises.specs.Same.{same_request}
use Rattle.promises.specs.Beside.{is_commit_asked}
use Rattle.promises.specs.Stops.{Arming, Writing, calls_of, is_cut_in, stays, are_two_open}
use Rattle.past_laws.specs.Agreement.{Agrees, instance_of}
use Rattle.past_laws.proofs.CallsAsks.{is_request, request_as}
use Rattle.past_laws.proofs.Changing.{filter_same, found_any, only_one}
use Rattle.past_laws.proofs.MadeKnown.{filter_finds, home_found}
use Rattle.past_laws.proofs.Names.{both, epoch_turned, serial_own, some_same}
use Rattle.past_laws.proofs.RowsCalls.{StepCall, step_call}
use Rattle.headline_laws.specs.StopRuns.Stops.{IsCutAt, IsCommitAsked}
use Rattle.headline_laws.specs.StopPromises.Alike.{leaves_of}
use Rattle.headline_laws.proofs.StopPromises.Gates.{new_same}
use Rattle.headline_laws.proofs.StopPromises.Disks.{WritesSame, calls_same}

-- ---- the cut call ----

-- how the disk is armed, by the past
abbrev pub arming_as : Armed → Arming
arming_as a = record { calls = calls_armed a.arming; leaves = leaves_of a.arming; used = a.used }

pub inside_same : (a : Armed) (calls passed many : ℕ) → IsCutAt a calls passed → many ≡ calls → nat_le a.used (calls_armed a.arming) && nat_lt (calls_armed a.arming) (a.used + many) ≡ true
inside_same a calls passed many k e = over a.used (calls_armed a.arming) calls passed many k.inside k.count e
  where
    over : (used armed calls passed many : ℕ) → passed < calls → used + passed ≡ armed → many ≡ calls → nat_le used armed && nat_lt armed (used + many) ≡ true
    over used armed calls passed many h f e = both (nat_le used armed) (nat_lt armed (used + many)) (grind (arith, nat_tests)) (grind (arith, nat_tests))

stays_same : (a : Armed) (w : Writing) (v : FoldWriting) → WritesSame w v → (passed : ℕ) → IsCutAt a (calls_of_writing v) passed → stays w (arming_as a) ≡ is_written v (cut_of a.arming) passed
stays_same a w v s passed k =
    ap (λ (n : ℕ). are_two_open (leaves_of a.arming) false (calls_armed a.arming - a.used) (calls_of (record { blocks = n; older = false }))) s.blocks
    ∙ (new_same a.arming (blocks v) (calls_armed a.arming - a.used)
    ∙ ap (new_gate (blocks v) (cut_of a.arming)) (rest a.used passed (calls_armed a.arming) k.count))
  where
    rest : (used passed armed : ℕ) → used + passed ≡ armed → armed - used ≡ passed
    rest used passed armed e = omega (arith, e)

-- what a cut version is, by the past
abbrev pub is_cut_so : (stay : Bool) → Arming → Writing → Bool
is_cut_so stay a w = is_cut_in (calls_of w) a && cond stay (stays w a) (not (stays w a))

pub cut_same : (a : Armed) (w : Writing) (v : FoldWriting) → WritesSame w v → (passed : ℕ) → IsCutAt a (calls_of_writing v) passed → (stay : Bool) → is_written v (cut_of a.arming) passed ≡ stay → is_cut_so stay (arming_as a) w ≡ true
cut_same a w v s passed k stay left = both (is_cut_in (calls_of w) (arming_as a)) _ (inside_same a (calls_of_writing v) passed (length (calls_of w)) k (calls_same w v s)) (at stay (stays_same a w v s passed k ∙ left))
  where
    at : (b : Bool) → stays w (arming_as a) ≡ b → cond b (stays w (arming_as a)) (not (stays w (arming_as a))) ≡ true
    at true e = e
    at false e = ap not e

-- ---- a commit that is asked for ----

asked_now : (c : Config) (before : Trace) (p : Past) → Agrees c before p → (e : EpochId) (id : CallId) → IsCallIn before e id → (w : Want) → wants_next c before id ≡ w → is_request w ≡ true → same_request w w ≡ true → is_asked c p (epoch_at p e) (λ k. true) w ≡ true
asked_now c before p a e id step w h r same = over (step_call c before p a e id step)
  where
    over : StepCall p e id → is_asked c p (epoch_at p e) (λ k. true) w ≡ true
    over it = found_any (is_id id) (λ (k : CallSoFar). true && (is_in k.epoch (epoch_at p e).id && same_request (asks c p k) w)) p.calls it.one it.found
        (both (is_in it.one.epoch (epoch_at p e).id) _ it.made_in
        (ap (λ (v : Want). same_request v w) (request_as c before p a it.one it.own it.one.answers w (ap (wants_after c before it.one.id) (a.calls.answers it.one it.own) ∙ (ap (λ (d : CallId). wants_after c before d (answers c before d)) it.id_is ∙ h)) r) ∙ same))

pub commit_asked : (c : Config) (before : Trace) (p : Past) → Agrees c before p → (e : EpochId) (f : FileId) (site : ℕ) (one : Instance) → epoch_of before site ≡ Some e → committing c before f site ≡ Some (instance_of one) → IsCommitAsked c before f site → is_commit_asked c p (epoch_at p e) one ≡ true
commit_asked c before p a e f site one inside by k = over k.asked
  where
    first : (x y : Bool) → x ≡ true → (x || y) ≡ true
    first true y h = refl
    first false y h = absurd (cc)

    second : (x y : Bool) → y ≡ true → (x || y) ≡ true
    second true y h = refl
    second false y h = h

    here : k.epoch ≡ e
    here = some_same k.epoch e (sym k.inside ∙ inside)

    named : k.instance.grant.inst ≡ one.grant.inst
    named = ap (λ (x : TreeInstance). x.grant.inst) (some_same k.instance (instance_of one) (sym k.committing_is ∙ by))

    over : IsStepOf c before k.epoch (call_of_release before k.epoch k.instance.grant.inst) (want.Close k.instance.grant.inst) ⊎ IsStepOf c before k.epoch (call_of_act before k.epoch k.instance.grant.inst (k.instance.work.ops + 1)) (want.Do k.instance.grant.inst op.Commit) → is_commit_asked c p (epoch_at p e) one ≡ true
    over (inl it) = first _ _ (asked_now c before p a e it.call (subst (λ (x : EpochId). IsCallIn before x it.call) here it.step) (want.Close one.grant.inst) (it.asked ∙ ap (λ (i : Serial). want.Close i) named) refl (serial_own one.grant.inst))
    over (inr it) = second _ _ (asked_now c before p a e it.call (subst (λ (x : EpochId). IsCallIn before x it.call) here it.step) (want.Do one.grant.inst op.Commit) (it.asked ∙ ap (λ (i : Serial). want.Do i op.Commit) named) refl (both (same_serial one.grant.inst one.grant.inst) true (serial_own one.grant.inst) refl))

-- ---- where the committing instance is ----

-- the epoch that a site is in is the only one
pub home_only : (c : Config) (before : Trace) (p : Past) → Agrees c before p → (site : ℕ) (e : EpochId) → epoch_of before site ≡ Some e → filter (is_home_of p site) p.epochs ≡ epoch_at p e ∷ []
home_only c before p a site e inside = filter_same (is_home_of p site) (is_epoch e) (λ t. ap (λ o. is_in o t.id) (a.sites.epoch site ∙ inside) ∙ epoch_turned e t.id) p.epochs
    ∙ only_one (is_epoch e) p.epochs (epoch_at p e) (a.epochs.once e) found
  where
    there : ((epoch_at p e).id ≡ e) × (find (is_epoch (epoch_at p e).id) p.epochs ≡ Some (epoch_at p e))
    there = home_found p e (a.epochs.inside site e inside)

    found : find (is_epoch e) p.epochs ≡ Some (epoch_at p e)
    found = ap (λ i. find (is_epoch i) p.epochs) (sym there.0) ∙ there.1

pub writer_found : (c : Config) (before : Trace) (p : Past) → Agrees c before p → (f : FileId) (site : ℕ) (e : EpochId) (one : Instance) → epoch_of before site ≡ Some e → writers_of p f site ≡ one ∷ [] → find (is_writer f site) (epoch_at p e).opened ≡ Some one
writer_found c before p a f site e one inside only = filter_finds (is_writer f site) (epoch_at p e).opened one []
    (sym (append-nil (filter (is_writer f site) (epoch_at p e).opened)) ∙ (sym (ap (fold (λ old (t : Epoch). filter (is_writer f site) t.opened ++ old) []) (home_only c before p a site e inside)) ∙ only))
