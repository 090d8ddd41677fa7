-- What an operation makes of the past, and what a release does, where the work was handed out and the call is known.
use Rattle.std.proofs.Common.{ℕ, ◌≡◌, ◌≤◌, Bool, List, [], ◌∷◌, ◌++◌, length, filter, fold, Option, Some, refl, sym, ap, subst, ◌∙◌}
use Rattle.std.specs.List.{find}
use Rattle.std.specs.Option.{option_and_then, option_map}
use Rattle.locus_ids.specs.declared.config.Config.{Config}
use Rattle.locus_ids.specs.declared.ids.EpochId.{EpochId}
use Rattle.locus_ids.specs.declared.ids.CallId.{CallId}
use Rattle.locus_ids.specs.declared.ids.Serial.{Serial}
use Rattle.locus_ids.specs.declared.ids.FileId.{FileId}
use Rattle.locus_ids.specs.declared.ids.Stamp.{Stamp}
use Rattle.trace_book.specs.declared.record.Record.TheVariants as rec
use Rattle.trace_book.specs.declared.operation.Op.{Op}
use Rattle.trace_book.specs.declared.operation.Op.TheVariants as op
use Rattle.trace_book.specs.declared.operation.Outcome.{Outcome}
use Rattle.trace_book.specs.declared.operation.Outcome.TheVariants as outcome
use Rattle.file_effects.specs.declared.work.Work.{Work}
use Rattle.call_rules.specs.declared.answer.Answer.{Answer}
use Rattle.tree_model.specs.declared.instance.Granted.{Granted}
use Rattle.promises.specs.Past.{Past, Another, CallSoFar, Epoch, Instance, Make, epoch_at, is_named, unformed}
use Rattle.promises.specs.Tree.{work_after}
use Rattle.promises.specs.After.{after, answered, begun_make, change, change_epoch, close_answer, is_actor, is_ender, is_epoch, is_id, released, told_by}
use Rattle.lawful_trace.specs.Progress.{outcome_answer}
use Rattle.past_laws.proofs.Changing.{changed, filter_changed, first_found, only_one, part_kept}
use Rattle.past_laws.proofs.Names.{some_same}
use Rattle.audit_epochs.specs.of_audit_instances.Rows.{no_work, with_work}
use Rattle.audit_calls.specs.Rows.{with_answer}
use Rattle.audit_epochs.specs.Changes.{acts_so, works}
use Rattle.audit_past.specs.Writing.{IsActor, IsEnder, IsOpen, IsOneCall, handed_out}
use Rattle.audit_past.proofs.Once.{change_alike, change_twice}
use Rattle.audit_past.proofs.Steps.{acted_so, answered_one, told_act, told_release}

-- a make begins by the grant alone
begun_like : (o : Op) (r : Outcome) (x y : Instance) → x.grant ≡ y.grant → begun_make o r x ≡ begun_make o r y
begun_like (op.Probe name) outcome.Done x y e = ap (λ (g : Granted). record { call = g.call; group = g.file.group } ∷ []) e
begun_like _ _ x y e = refl

-- the operation is as if the work had never been handed out
put_back : (i : Serial) (o : Op) (r : Outcome) (w : Work) (t : Epoch) (x : Instance) → length (filter (is_named i) t.opened) ≤ 1 → find (is_named i) t.opened ≡ Some x → acts_so i o r w (works i no_work t) ≡ acted_so i o r w t
put_back i o r w t x few found = ap (λ xs. record t { opened = xs; makes = made (filter (is_named i) (change (is_named i) (with_work no_work) t.opened)) }) twice
    ∙ ap (λ ms. record t { opened = change (is_named i) (with_work w) t.opened; makes = ms }) made_same
  where
    made : List Instance → List Make
    made xs = fold (λ old y. begun_make o r y ++ old) t.makes xs

    twice : change (is_named i) (with_work w) (change (is_named i) (with_work no_work) t.opened) ≡ change (is_named i) (with_work w) t.opened
    twice = change_twice (is_named i) (with_work no_work) (with_work w) (λ y h. h) t.opened

    made_same : made (filter (is_named i) (change (is_named i) (with_work no_work) t.opened)) ≡ made (filter (is_named i) t.opened)
    made_same = ap made (filter_changed (is_named i) (is_named i) (with_work no_work) (λ y h. refl) t.opened)
        ∙ (ap (λ ys. made (change (is_named i) (with_work no_work) ys)) one
        ∙ (ap (λ ms. ms ++ t.makes) (begun_like o r (changed (is_named i) (with_work no_work) x) x (part_kept (λ (y : Instance). y.grant) (is_named i) (with_work no_work) (λ y h. refl) x))
        ∙ sym (ap made one)))
      where
        one : filter (is_named i) t.opened ≡ x ∷ []
        one = only_one (is_named i) t.opened x few found

-- a call that alone passes is answered by its name
answered_so : (p : Past) (which : CallSoFar → Bool) (id : CallId) (a : Answer) → IsOneCall p.calls which id → answered which a p ≡ answered (is_id id) a p
answered_so p which id a one = answered_one p which a one.call one.alone (rw one.own one.once) one.found ∙ ap (λ d. answered (is_id d) a p) one.own

-- the epoch of the name is this one
pub epoch_is : (p : Past) (e : EpochId) (i : Serial) (it : IsOpen p e i) → epoch_at p e ≡ it.epoch
epoch_is p e i it = first_found (unformed e) (is_epoch e) p.epochs it.epoch it.there

-- an operation on the work that was handed out
pub acted_so_far : (c : Config) (p : Past) (e : EpochId) (i : Serial) (n : ℕ) (o : Op) (r : Outcome) (w : Work) (id : CallId) (it : IsOpen p e i) → IsActor p e i n id → w ≡ work_after p it.epoch o r it.instance →
    record (handed_out e i p) { epochs = change (is_epoch e) (acts_so i o r w) (handed_out e i p).epochs; calls = change (is_id id) (with_answer (outcome_answer r)) p.calls; last = Another } ≡ after c (rec.Act e i n o r) p
acted_so_far c p e i n o r w id it actor now = ap (λ (v : Past). record v { last = Another }) (lhs ∙ sym rhs)
  where
    with_both : List Epoch → Past
    with_both ts = record p { epochs = ts; calls = change (is_id id) (with_answer (outcome_answer r)) p.calls }

    lhs : with_both (change (is_epoch e) (acts_so i o r w) (change (is_epoch e) (works i no_work) p.epochs)) ≡ with_both (change (is_epoch e) (acted_so i o r w) p.epochs)
    lhs = ap with_both (change_twice (is_epoch e) (works i no_work) (acts_so i o r w) (λ t h. h) p.epochs
        ∙ change_alike (is_epoch e) (λ t. acts_so i o r w (works i no_work t)) (acted_so i o r w) p.epochs it.epoch it.once it.there (put_back i o r w it.epoch it.instance it.single it.named))

    rhs : told_by c (rec.Act e i n o r) p ≡ with_both (change (is_epoch e) (acted_so i o r w) p.epochs)
    rhs = told_act c p e i n o r it.epoch it.instance it.once it.there it.single it.named
        ∙ (ap (change_epoch (is_epoch e) (acted_so i o r (work_after p it.epoch o r it.instance))) (answered_so p (is_actor (epoch_at p e) i n) id (outcome_answer r) actor)
        ∙ ap (λ u. with_both (change (is_epoch e) (acted_so i o r u) p.epochs)) (sym now))

-- the release of an instance
pub released_so_far : (c : Config) (p : Past) (e : EpochId) (i : Serial) (f : FileId) (stamp : Option Stamp) (id : CallId) (it : IsOpen p e i) → IsEnder p e i id →
    record p { epochs = change (is_epoch e) (released i f stamp) p.epochs; calls = change (is_id id) (with_answer (close_answer stamp it.instance)) p.calls; last = Another } ≡ after c (rec.Release e i f stamp) p
released_so_far c p e i f stamp id it ender = ap (λ (v : Past). record v { last = Another }) (sym rhs)
  where
    here : epoch_at p e ≡ it.epoch
    here = epoch_is p e i it

    single : length (filter (is_named i) (epoch_at p e).opened) ≤ 1
    single = rw here it.single

    named : find (is_named i) (epoch_at p e).opened ≡ Some it.instance
    named = ap (λ (t : Epoch). find (is_named i) t.opened) here ∙ it.named

    rhs : told_by c (rec.Release e i f stamp) p ≡ record p { epochs = change (is_epoch e) (released i f stamp) p.epochs; calls = change (is_id id) (with_answer (close_answer stamp it.instance)) p.calls }
    rhs = told_release c p e i f stamp it.instance single named ∙ ap (change_epoch (is_epoch e) (released i f stamp)) (answered_so p (is_ender (epoch_at p e) i) id (close_answer stamp it.instance) ender)

-- the same of tables that show the past
pub released_view : (c : Config) (p q : Past) → p ≡ q → (e : EpochId) (i : Serial) (f : FileId) (stamp : Option Stamp) (id : CallId) (answer : Answer) (ts : List Epoch) (ks : List CallSoFar) → IsOpen q e i → IsEnder q e i id →
    Some answer ≡ option_and_then (λ (t : Epoch). option_map (close_answer stamp) (find (is_named i) t.opened)) (find (is_epoch e) q.epochs) →
    ks ≡ change (is_id id) (with_answer answer) p.calls → ts ≡ change (is_epoch e) (released i f stamp) p.epochs →
    record p { epochs = ts; calls = ks; last = Another } ≡ after c (rec.Release e i f stamp) q
released_view c p q same e i f stamp id answer ts ks open_there ender given k t = main (subst (λ v. IsOpen v e i) (sym same) open_there) (subst (λ v. IsEnder v e i id) (sym same) ender)
  where
    main : IsOpen p e i → IsEnder p e i id → record p { epochs = ts; calls = ks; last = Another } ≡ after c (rec.Release e i f stamp) q
    main it step = ap (λ us. record p { epochs = us; calls = ks; last = Another }) t
        ∙ (ap (λ us. record p { epochs = change (is_epoch e) (released i f stamp) p.epochs; calls = us; last = Another }) (k ∙ ap (λ a. change (is_id id) (with_answer a) p.calls) own)
        ∙ (released_so_far c p e i f stamp id it step ∙ ap (after c (rec.Release e i f stamp)) same))
      where
        own : answer ≡ close_answer stamp it.instance
        own = some_same answer (close_answer stamp it.instance)
            (given ∙ (ap (λ (v : Past). option_and_then (λ (t : Epoch). option_map (close_answer stamp) (find (is_named i) t.opened)) (find (is_epoch e) v.epochs)) (sym same) ∙ (ap (option_and_then (λ (t : Epoch). option_map (close_answer stamp) (find (is_named i) t.opened))) it.there ∙ ap (option_map (close_answer stamp)) it.named)))

pub acted_view : (c : Config) (p v q : Past) → v ≡ q → (e : EpochId) (i : Serial) (n : ℕ) (o : Op) (r : Outcome) (w : Work) (id : CallId) (answer : Answer) (ts : List Epoch) (ks : List CallSoFar) (it : IsOpen p e i) → q ≡ handed_out e i p → IsActor p e i n id → w ≡ work_after p it.epoch o r it.instance →
    answer ≡ outcome_answer r → ts ≡ change (is_epoch e) (acts_so i o r w) v.epochs → ks ≡ change (is_id id) (with_answer answer) v.calls →
    record v { epochs = ts; calls = ks; last = Another } ≡ after c (rec.Act e i n o r) p
acted_view c p v q same e i n o r w id answer ts ks it was actor now given t k =
    ap (λ us. record v { epochs = us; calls = ks; last = Another }) t
    ∙ (ap (λ us. record v { epochs = change (is_epoch e) (acts_so i o r w) v.epochs; calls = us; last = Another }) (k ∙ ap (λ a. change (is_id id) (with_answer a) v.calls) given)
    ∙ (ap (λ (u : Past). record u { epochs = change (is_epoch e) (acts_so i o r w) u.epochs; calls = change (is_id id) (with_answer (outcome_answer r)) u.calls; last = Another }) (same ∙ was)
    ∙ acted_so_far c p e i n o r w id it actor now))
