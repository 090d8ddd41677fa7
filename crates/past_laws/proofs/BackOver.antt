-- Along a trace a call that a descriptor has answered asks nothing more.
use Rattle.std.proofs.Common.{◌≡◌, ℕ, ◌+◌, ◌-◌, ◌==◌, Bool, true, false, cond, ◌&&◌, ◌||◌, List, [], ◌∷◌, length, nat_lt, take, Option, Some, None, refl, sym, ap, subst, ◌∙◌, arith}
use Rattle.std.specs.Prelude.{suc, zero}
use Rattle.std.proofs.lemmas.List.{take_all}
use Rattle.locus_ids.specs.declared.config.Config.{Config}
use Rattle.locus_ids.specs.declared.ids.CallId.{CallId}
use Rattle.locus_ids.specs.declared.ids.FileId.{FileId}
use Rattle.trace_book.specs.Same.{same_call}
use Rattle.trace_book.specs.declared.descriptor.Beginning.{Beginning}
use Rattle.trace_book.specs.declared.operation.What.{What}
use Rattle.trace_book.specs.declared.record.Record.{Record}
use Rattle.trace_book.specs.declared.record.Record.TheVariants as says
use Rattle.trace_book.specs.declared.reply.Reply.{Reply}
use Rattle.trace_book.specs.declared.reply.Reply.TheVariants as reply
use Rattle.call_rules.specs.declared.answer.Answer.{Answer}
use Rattle.call_rules.specs.declared.want.Want.{Want}
use Rattle.call_rules.specs.declared.want.Want.TheVariants as want
use Rattle.tree_model.specs.declared.accepted.Waiting.{Waiting}
use Rattle.tree_model.specs.Calls.{call_named}
use Rattle.tree_model.specs.Folds.{Trace}
use Rattle.promises.specs.of_lawful_trace.CallRows.{is_this}
use Rattle.promises.specs.of_lawful_trace.Lawful.{MayCome}
use Rattle.promises.specs.of_lawful_trace.Progress.{answers, left_epoch, wants_after, wants_as, wants_next}
use Rattle.promises.specs.of_lawful_trace.Tables.{begun, call_of_act, call_of_release, has_named, is_call, names_instance}
use Rattle.promises.specs.of_lawful_trace.TreeRows.{is_next_or_again}
use Rattle.promises.specs.Past.{Past}
use Rattle.past_laws.specs.Agreement.{Agrees, SaysGiven, past}
use Rattle.past_laws.specs.Along.{EachComesSo, IsNamed}
use Rattle.past_laws.proofs.Agreeing.{all_agrees}
use Rattle.past_laws.proofs.BackActs.{AnsweredAskNothing}
use Rattle.past_laws.proofs.BackRead.{IsEnded, given_ended}
use Rattle.past_laws.proofs.CallsAsks.{is_request}
use Rattle.past_laws.proofs.CallsFree.{scripted}
use Rattle.past_laws.proofs.CallsUsers.{next_is_new}
use Rattle.past_laws.proofs.Names.{both_parts, call_eq, false_true, number_eq, some_same}
use Rattle.past_laws.proofs.RowsTrees.{open_request}
use Rattle.past_laws.proofs.TreesCallers.{named_for}
use Rattle.past_laws.proofs.TreesLists.{found_passes}

-- The script of the call has come to its end.
record IsOver (c : Config) (trace : Trace) (d : CallId) : Type 0 where
  pub it : Waiting
  pub named : call_named trace d ≡ Some it
  pub over : (b : Beginning) → begun trace d ≡ Some b → IsEnded c.mounts it.words b (answers c trace d)

abbrev AreOver : Config → Trace → Type 0
AreOver c trace = (d : CallId) → has_named trace d ≡ true → IsOver c trace d

wants_none : (c : Config) (trace : Trace) (d : CallId) → IsOver c trace d → is_request (wants_next c trace d) ≡ true → ⊥
wants_none c trace d k h = at (begun trace d) refl (ap (λ o. is_request (wants_as c trace o (begun trace d) (answers c trace d))) (sym k.named) ∙ h)
  where
    at : (o : Option Beginning) → begun trace d ≡ o → is_request (wants_as c trace (Some k.it) o (answers c trace d)) ≡ true → ⊥
    at None q e = false_true e
    at (Some b) q e = (k.over b q).silent _ _ e

-- no look is taken again
looks_none : (c : Config) (trace : Trace) (d : CallId) (n : ℕ) → IsOver c trace d → length (answers c trace d) ≡ suc n → (f : FileId) (w : What) → wants_after c trace d (take n (answers c trace d)) ≡ want.Look f w → ⊥
looks_none c trace d n k l f w h = at (begun trace d) refl (ap (λ o. wants_as c trace o (begun trace d) (take n (answers c trace d))) (sym k.named) ∙ h)
  where
    at : (o : Option Beginning) → begun trace d ≡ o → wants_as c trace (Some k.it) o (take n (answers c trace d)) ≡ want.Look f w → ⊥
    at None q e = cc
    at (Some b) q e = (k.over b q).no_look _ _ n l f w e

look_over : (c : Config) (trace : Trace) (d : CallId) (request : ℕ) → IsOver c trace d → is_next_or_again request (length (answers c trace d)) ≡ true → (f : FileId) (w : What) → wants_after c trace d (take (request - 1) (answers c trace d)) ≡ want.Look f w → ⊥
look_over c trace d request k numbered f w h = at (request == length (answers c trace d) + 1) refl numbered
  where
    xs : List Answer
    xs = answers c trace d

    at : (b : Bool) → (request == length xs + 1) ≡ b → (b || (nat_lt 0 request && (request == length xs))) ≡ true → ⊥
    at true e j = wants_none c trace d k (ap is_request (sym (ap (wants_after c trace d) (all_of (number_eq request (length xs + 1) e))) ∙ h))
      where
        less : (r m : ℕ) → r ≡ m + 1 → r - 1 ≡ m
        less r m q = omega arith

        all_of : request ≡ length xs + 1 → take (request - 1) xs ≡ xs
        all_of q = ap (λ m. take m xs) (less request (length xs) q) ∙ take_all (length xs) xs (omega arith)
    at false e j = looks_none c trace d (request - 1) k (sym (number_eq request (length xs) (both_parts (nat_lt 0 request) (request == length xs) j).1) ∙ up request (both_parts (nat_lt 0 request) (request == length xs) j).0) f w h
      where
        up : (r : ℕ) → nat_lt 0 r ≡ true → r ≡ suc (r - 1)
        up zero q = false_true q
        up (suc r) q = omega arith

-- The step.

kept : (c : Config) (old new : Trace) (d : CallId) → call_named new d ≡ call_named old d → begun new d ≡ begun old d → answers c new d ≡ answers c old d → IsOver c old d → IsOver c new d
kept c old new d named began same k = record { it = k.it; named = named ∙ k.named; over = λ b e. subst (IsEnded c.mounts k.it.words b) (sym same) (k.over b (sym began ∙ e)) }

-- a reply that names an instance ends its call
answered_over : (c : Config) (before : Trace) (n site process : ℕ) (id : CallId) (r : Reply) → names_instance r ≡ true → MayCome c before (says.Answer site process id r) → SaysGiven c before (says.Answer site process id r) → IsOver c before id
answered_over c before n site process id r names may given = by (call_named before id) (begun before id) refl refl wanted
  where
    own : may.caller.call ≡ id
    own = call_eq may.caller.call id (both_parts _ (same_call may.caller.call id) (found_passes (is_this site process id) _ may.caller may.waits)).1

    wanted : wants_next c before id ≡ want.Give r
    wanted = ap (wants_next c before) (sym own) ∙ scripted (left_epoch before may.caller) (wants_next c before may.caller.call) r names (given may.caller may.waits)

    never : {A : Type 0} → ◌≡◌ {A = Want} want.Never (want.Give r) → A
    never k = absurd (cc)

    by : (o : Option Waiting) (b : Option Beginning) → call_named before id ≡ o → begun before id ≡ b → wants_as c before (call_named before id) (begun before id) (answers c before id) ≡ want.Give r → IsOver c before id
    by None b e f h = never (sym (ap (λ o. wants_as c before o (begun before id) (answers c before id)) e) ∙ h)
    by (Some w) None e f h = never (sym (ap (λ o. wants_as c before o (begun before id) (answers c before id)) e ∙ ap (λ o. wants_as c before (Some w) o (answers c before id)) f) ∙ h)
    by (Some w) (Some b) e f h = record {
      it = w;
      named = e;
      over = λ b2 g. subst (λ z. IsEnded c.mounts w.words z (answers c before id)) (some_same b b2 (sym f ∙ g))
          (given_ended c.mounts _ _ w.words b (answers c before id) r names (sym (ap (λ o. wants_as c before o (begun before id) (answers c before id)) e ∙ ap (λ o. wants_as c before (Some w) o (answers c before id)) f) ∙ h));
    }

unless : (b : Bool) (old new : List Answer) → (b ≡ true → ⊥) → cond b new old ≡ old
unless true old new h = absurd (h refl)
unless false old new h = refl

over_step : (c : Config) (n : ℕ) (r : Record) (before : Trace) (p : Past) → MayCome c before r → SaysGiven c before r → Agrees c before p → AreOver c before → AreOver c (record { line = n; what = r } ∷ before)
over_step c n (says.Accept s q id words) before p may given a k d h = kept c before (record { line = n; what = says.Accept s q id words } ∷ before) d (older (call_named before d) _ (same_call id d) refl) (older (begun before d) _ (same_call id d) refl) refl (k d h)
  where
    older : {X : Type 0} (x y : X) (b : Bool) → same_call id d ≡ b → cond b y x ≡ x
    older x y true e = next_is_new before s d (a.calls.users.low_named d h) (sym (call_eq id d e) ∙ named_for c before s q id words may)
    older x y false e = refl
over_step c n (says.Look e id m f w result) before p may given a k d h = kept c before (record { line = n; what = says.Look e id m f w result } ∷ before) d refl refl (unless (same_call id d) (answers c before d) _ not_it) (k d h)
  where
    not_it : same_call id d ≡ true → ⊥
    not_it e = look_over c before d m (k d h) (ap (λ x. is_next_or_again m (length (answers c before x))) (sym (call_eq id d e)) ∙ may.numbered) f w (ap (λ x. wants_after c before x (take (m - 1) (answers c before x))) (sym (call_eq id d e)) ∙ may.asked)
over_step c n (says.Grant e id m i mode f stamp ss) before p may given a k d h = kept c before (record { line = n; what = says.Grant e id m i mode f stamp ss } ∷ before) d refl refl (unless (same_call id d) (answers c before d) _ not_it) (k d h)
  where
    not_it : same_call id d ≡ true → ⊥
    not_it q = wants_none c before d (k d h) (ap (λ x. is_request (wants_next c before x)) (sym (call_eq id d q)) ∙ open_request mode f (wants_next c before id) may.opens.asked)
over_step c n (says.Refuse e id m i mode f why) before p may given a k d h = kept c before (record { line = n; what = says.Refuse e id m i mode f why } ∷ before) d refl refl (unless (same_call id d) (answers c before d) _ not_it) (k d h)
  where
    not_it : same_call id d ≡ true → ⊥
    not_it q = wants_none c before d (k d h) (ap (λ x. is_request (wants_next c before x)) (sym (call_eq id d q)) ∙ open_request mode f (wants_next c before id) may.opens.asked)
over_step c n (says.Act e i m o result) before p may given a k d h = kept c before (record { line = n; what = says.Act e i m o result } ∷ before) d refl refl (unless (is_call (call_of_act before e i m) d) (answers c before d) _ not_it) (k d h)
  where
    not_it : is_call (call_of_act before e i m) d ≡ true → ⊥
    not_it q = wants_none c before d (k d h) (ap (λ x. is_request (wants_next c before x)) (sym (call_eq may.step.call d (ap (λ x. is_call x d) (sym may.step.owned) ∙ q))) ∙ ap is_request may.step.asked)
over_step c n (says.Release e i f stamp) before p may given a k d h = kept c before (record { line = n; what = says.Release e i f stamp } ∷ before) d refl refl (unless (is_call (call_of_release before e i) d) (answers c before d) _ not_it) (k d h)
  where
    not_it : is_call (call_of_release before e i) d ≡ true → ⊥
    not_it q = wants_none c before d (k d h) (ap (λ x. is_request (wants_next c before x)) (sym (call_eq may.step.call d (ap (λ x. is_call x d) (sym may.step.owned) ∙ q))) ∙ ap is_request may.step.asked)
over_step c n (says.Answer s q id r) before p may given a k d h = at (same_call id d) r refl h may given
  where
    new : Reply → Trace
    new x = record { line = n; what = says.Answer s q id x } ∷ before

    at : (b : Bool) (x : Reply) → same_call id d ≡ b → ((b && names_instance x) || has_named before d) ≡ true → MayCome c before (says.Answer s q id x) → SaysGiven c before (says.Answer s q id x) → IsOver c (new r) d
    at true (reply.Opened fd) e j m g = kept c before (new r) d refl refl refl (subst (IsOver c before) (call_eq id d e) (answered_over c before n s q id (reply.Opened fd) refl m g))
    at true (reply.Data bytes) e j m g = kept c before (new r) d refl refl refl (subst (IsOver c before) (call_eq id d e) (answered_over c before n s q id (reply.Data bytes) refl m g))
    at true _ e j m g = kept c before (new r) d refl refl refl (k d j)
    at false x e j m g = kept c before (new r) d refl refl refl (k d j)
over_step c n r before p may given a k d h = kept c before (record { line = n; what = r } ∷ before) d refl refl refl (k d h)

all_over : (c : Config) → IsNamed c → (trace : Trace) → EachComesSo c trace → AreOver c trace
all_over c named [] k d h = false_true h
all_over c named (r ∷ before) k d h = over_step c r.line r.what before (past c before) k.0.row k.0.given (all_agrees c named before k.1) (all_over c named before k.1) d h

-- a call that a descriptor has answered asks nothing more
pub answered_silent : (c : Config) → IsNamed c → (trace : Trace) → EachComesSo c trace → AnsweredAskNothing c trace
answered_silent c named trace k d h = wants_none c trace d (all_over c named trace k d h)
