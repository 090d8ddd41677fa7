-- What a step of the one tree says of its record, by what its row answered and by what is told then.
use Rattle.std.proofs.Common.{ℕ, ◌≡◌, ◌==◌, Bool, true, false, ◌&&◌, Option, Some, None, refl, sym, ap, subst, ◌∙◌}
use Rattle.std.specs.List.{find}
use Rattle.std.specs.Option.{option_and_then, option_map}
use Rattle.std.proofs.lemmas.Slice.Eq.{bytes_eq-Decides}
use Rattle.locus_ids.specs.declared.config.Config.{Config}
use Rattle.locus_ids.specs.declared.ids.CallId.{CallId}
use Rattle.locus_ids.specs.declared.ids.EpochId.{EpochId}
use Rattle.locus_ids.specs.declared.ids.Mode.{Mode}
use Rattle.locus_ids.specs.declared.ids.Serial.{Serial}
use Rattle.trace_book.specs.declared.operation.Op.{Op}
use Rattle.trace_book.specs.declared.operation.Outcome.{Outcome}
use Rattle.trace_book.specs.declared.operation.Outcome.TheVariants as outcome
use Rattle.trace_book.specs.declared.record.Record.{Record}
use Rattle.trace_book.specs.declared.record.Record.TheVariants as rec
use Rattle.file_effects.specs.declared.work.Work.{Work}
use Rattle.operation_effects.specs.Settling.{Worked, worked_so}
use Rattle.tree_model.specs.Same.{is_given, same_kind, same_outcome}
use Rattle.promises.specs.Past.{CallSoFar, Epoch, Instance, Past, ends, is_named}
use Rattle.promises.specs.After.{after, is_epoch}
use Rattle.promises.specs.Rows.{may_follow}
use Rattle.promises.specs.Tree.{free_pages, result_on, work_after}
use Rattle.plain_facts.proofs.Tests.{and_true}
use Rattle.past_laws.proofs.BackActs.{kind_back}
use Rattle.past_laws.proofs.BackSame.{refusal_back}
use Rattle.past_laws.proofs.Names.{both_parts, false_true, none_some, number_eq, some_same, stamp_eq}
use Rattle.audit_laws.specs.Tidy.Steps.{OneEnd}
use Rattle.audit_laws.proofs.Tidy.TiesParts.{epoch_id}
use Rattle.audit_rules.specs.Turns.{is_in_turn}
use Rattle.audit_tree.specs.Acting.{acted_on}
use Rattle.audit_tree.specs.Adding.{acted_with, added_on}
use Rattle.audit_tree.specs.declared.acting.Added.{Added}
use Rattle.audit_tree.proofs.Acts.{acts_with, gave_none, gave_so}
use Rattle.audit_rows.specs.of_audit_told_calls.of_audit_epochs.Places.{work_of}
use Rattle.audit_rows.specs.declared.acting.Acting.{Acting}
use Rattle.audit_rows.specs.Acts.{MayActWith}
use Rattle.trace_audit.specs.Steps.{Judges}

-- a record that may not follow
pub may_not : (c : Config) (p q : Past) (r : Record) → false ≡ may_follow c p r → Judges c p r q false
may_not c p q r refused = record { told = ap (λ b. b && is_in_turn p r) refused; next = λ said. false_true said }

-- one that may, and is in turn
pub may_so : (c : Config) (p q : Past) (r : Record) → is_in_turn p r ≡ true → true ≡ may_follow c p r → q ≡ after c r p → Judges c p r q true
may_so c p q r turn said now = record { told = sym (and_true (may_follow c p r) (is_in_turn p r) (sym said) turn); next = λ _. now }

-- ---- operations ----

-- outcomes that test as the same are the same
outcome_back : (a b : Outcome) → same_outcome a b ≡ true → a ≡ b
outcome_back outcome.Done outcome.Done h = refl
outcome_back (outcome.Found i k) (outcome.Found j l) h = (let parts : ((i == j) ≡ true) × (same_kind k l ≡ true) = both_parts (i == j) (same_kind k l) h
    in ap (λ z. outcome.Found z k) (number_eq i j parts.0) ∙ ap (outcome.Found j) (kind_back k l parts.1))
outcome_back (outcome.Data x) (outcome.Data y) h = ap (λ z. outcome.Data z) ((bytes_eq-Decides x y).0 h)
outcome_back (outcome.Committed s) (outcome.Committed t) h = ap (λ z. outcome.Committed z) (stamp_eq s t h)
outcome_back (outcome.No w) (outcome.No v) h = ap (λ z. outcome.No z) (refusal_back w v h)
outcome_back _ _ h = false_true h

-- An operation that may come next with this, but for what it gives.
module _ (c : Config) (p : Past) (e : EpochId) (i : Serial) (n : ℕ) (o : Op) (a : Acting) (it : MayActWith c p e i n o a) where
  -- the work of its instance is there to be handed out
  work_is : work_of i (find (is_epoch e) p.epochs) ≡ Some it.stands.instance.work
  work_is = ap (work_of i) it.stands.there ∙ ap (option_map (λ (x : Instance). x.work)) it.stands.named

  pub work_so : (w : Work) → Some w ≡ work_of i (find (is_epoch e) p.epochs) → w ≡ it.stands.instance.work
  work_so w is = some_same w it.stands.instance.work (is ∙ work_is)

  -- what was carried out gives and leaves what the tree says
  pub acted_so : (w : Work) (done : Worked) → w ≡ it.stands.instance.work → done ≡ acted_with a.added o a.free a.mode w → done ≡ acted_on p it.stands.epoch o it.stands.instance
  acted_so w done is by = by
      ∙ (ap (λ (z : Added). acted_with z o a.free a.mode w) it.added
      ∙ (ap (λ m. acted_with (added_on p it.stands.epoch o it.stands.instance) o m a.mode w) it.free
      ∙ (ap (λ (m : Mode). acted_with (added_on p it.stands.epoch o it.stands.instance) o (free_pages p it.stands.epoch it.stands.instance.grant.file.group it.stands.instance.grant.ss) m w) it.mode
      ∙ (ap (λ (v : Work). acted_with (added_on p it.stands.epoch o it.stands.instance) o (free_pages p it.stands.epoch it.stands.instance.grant.file.group it.stands.instance.grant.ss) it.stands.instance.grant.mode v) is
      ∙ acts_with p it.stands.epoch o it.stands.instance))))

  gave_is : (gave : Option Outcome) (new : Work) → worked_so gave new ≡ acted_on p it.stands.epoch o it.stands.instance → result_on p it.stands.epoch o it.stands.instance ≡ gave
  gave_is (Some g) new h = (gave_so p it.stands.epoch o it.stands.instance new g h).0
  gave_is None new h = gave_none p it.stands.epoch o it.stands.instance new h

  -- so it may come next exactly where it gave what is recorded
  pub judged_by : (gave : Option Outcome) (new : Work) (result : Outcome) (said : Bool) → worked_so gave new ≡ acted_on p it.stands.epoch o it.stands.instance → said ≡ is_given gave result → said ≡ may_follow c p (rec.Act e i n o result)
  judged_by gave new result said h is = is ∙ (ap (λ g. is_given g result) (sym (gave_is gave new h)) ∙ sym (it.judged result))

  -- and then leaves what becomes of the instance by this
  pub left_by : (gave : Option Outcome) (new : Work) (result : Outcome) → worked_so gave new ≡ acted_on p it.stands.epoch o it.stands.instance → true ≡ is_given gave result → new ≡ work_after p it.stands.epoch o result it.stands.instance
  left_by None new result h said = false_true (sym said)
  left_by (Some g) new result h said = (gave_so p it.stands.epoch o it.stands.instance new g h).1 ∙ ap (λ r. work_after p it.stands.epoch o r it.stands.instance) (outcome_back g result (sym said))

-- ---- releases ----

-- the call is found of which the release is a step
pub ender_is : (p : Past) (e : EpochId) (i : Serial) (it : OneEnd p e i)
    → option_and_then (λ (t : Epoch). option_and_then (λ (x : Instance). option_map (λ (k : CallSoFar). k.id) (find (ends e x) p.calls)) (find (is_named i) t.opened)) (find (is_epoch e) p.epochs) ≡ Some it.call.id
ender_is p e i it =
    ap (option_and_then by_epoch) it.there
    ∙ (ap (option_and_then by_instance) it.named
    ∙ ap (option_map (λ (k : CallSoFar). k.id)) (subst (λ (d : EpochId). find (ends d it.instance) p.calls ≡ Some it.call) (epoch_id p e) it.found))
  where
    by_instance : Instance → Option CallId
    by_instance x = option_map (λ (k : CallSoFar). k.id) (find (ends e x) p.calls)

    by_epoch : Epoch → Option CallId
    by_epoch t = option_and_then by_instance (find (is_named i) t.opened)

pub ender_so : (p : Past) (e : EpochId) (i : Serial) (it : OneEnd p e i) (id : CallId)
    → Some id ≡ option_and_then (λ (t : Epoch). option_and_then (λ (x : Instance). option_map (λ (k : CallSoFar). k.id) (find (ends e x) p.calls)) (find (is_named i) t.opened)) (find (is_epoch e) p.epochs) → it.call.id ≡ id
ender_so p e i it id is = sym (some_same id it.call.id (is ∙ ender_is p e i it))

pub ender_there : {A : Type 0} (p : Past) (e : EpochId) (i : Serial) (it : OneEnd p e i)
    → None ≡ option_and_then (λ (t : Epoch). option_and_then (λ (x : Instance). option_map (λ (k : CallSoFar). k.id) (find (ends e x) p.calls)) (find (is_named i) t.opened)) (find (is_epoch e) p.epochs) → A
ender_there p e i it none = none_some it.call.id (none ∙ ender_is p e i it)
