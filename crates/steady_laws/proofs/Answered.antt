-- The last answer of a call is of a record.
use Rattle.std.proofs.Common.{◌≡◌, ◌-◌, Bool, true, false, cond, [], ◌∷◌, ◌++◌, refl, sym, ap, ◌∙◌, subst, take}
use Rattle.locus_ids.specs.declared.config.Config.{Config}
use Rattle.locus_ids.specs.declared.ids.CallId.{CallId}
use Rattle.trace_book.specs.Same.{same_call}
use Rattle.trace_book.specs.declared.record.Record.{Record}
use Rattle.trace_book.specs.declared.record.Record.TheVariants.{Look, Grant, Refuse, Act, Release}
use Rattle.call_rules.specs.declared.answer.Answer.{Answer}
use Rattle.call_rules.specs.declared.answer.Answer.TheVariants.{Refused}
use Rattle.tree_model.specs.Folds.{Trace}
use Rattle.tree_model.specs.State.{instance_in}
use Rattle.tree_model.specs.Tree.{kept_in, tree_of}
use Rattle.lawful_trace.specs.Progress.{Answers, answers, answers_after, close_answer, granted_answer, look_answer, outcome_answer}
use Rattle.lawful_trace.specs.Tables.{call_of_act, call_of_release, is_call}
use Rattle.steady_laws.specs.Answered.{IsAnsweredBy, WasAnswered}

beside : (P Q R : Type 0) → P → Q × R → P × Q × R
beside P Q R p k = (p, k.0, k.1)

heads : (x y : Answer) (xs ys : Answers) → x ∷ xs ≡ y ∷ ys → x ≡ y
heads x y xs ys e = cc

tails : (x y : Answer) (xs ys : Answers) → x ∷ xs ≡ y ∷ ys → xs ≡ ys
tails x y xs ys e = cc

empty : (xs : Answers) (a : Answer) → [] ≡ xs ++ a ∷ [] → ⊥
empty [] a e = cc
empty (x ∷ xs) a e = cc

-- lists with the same end are the same, and so are the ends
pub ends_same : (xs ys : Answers) (a b : Answer) → xs ++ a ∷ [] ≡ ys ++ b ∷ [] → (xs ≡ ys) × (a ≡ b)
ends_same [] [] a b e = (refl, heads a b [] [] e)
ends_same [] (y ∷ ys) a b e = absurd (empty ys b (tails a y [] (ys ++ b ∷ []) e))
ends_same (x ∷ xs) [] a b e = absurd (empty xs a (sym (tails x b (xs ++ a ∷ []) [] e)))
ends_same (x ∷ xs) (y ∷ ys) a b e = more (ends_same xs ys a b (tails x y (xs ++ a ∷ []) (ys ++ b ∷ []) e))
  where
    first : x ≡ y
    first = heads x y (xs ++ a ∷ []) (ys ++ b ∷ []) e

    more : (xs ≡ ys) × (a ≡ b) → (x ∷ xs ≡ y ∷ ys) × (a ≡ b)
    more k = (ap (λ (z : Answer). z ∷ xs) first ∙ ap (λ (zs : Answers). y ∷ zs) k.0, k.1)

pub was_answered : (c : Config) (t : Trace) (d : CallId) (earlier : Answers) (a : Answer) → answers c t d ≡ earlier ++ a ∷ [] → WasAnswered c t d earlier a
was_answered c [] d earlier a e = absurd (empty earlier a e)
was_answered c (r ∷ before) d earlier a e = by r.what refl (was_answered c before d earlier a) e
  where
    old : Answers
    old = answers c before d

    on : WasAnswered c before d earlier a → WasAnswered c (r ∷ before) d earlier a
    on w = record { later = r ∷ w.later; entry = w.entry; before = w.before; split = ap (λ (t : Trace). r ∷ t) w.split; gave = w.gave }

    here : IsAnsweredBy c before d earlier a r.what → WasAnswered c (r ∷ before) d earlier a
    here gave = record { later = []; entry = r; before = before; split = refl; gave = gave }

    by : (x : Record) → r.what ≡ x → (old ≡ earlier ++ a ∷ [] → WasAnswered c before d earlier a) → answers_after x c before d old ≡ earlier ++ a ∷ [] → WasAnswered c (r ∷ before) d earlier a
    by (Look at call request f w result) is ih e = over (same_call call d) refl e
      where
        over : (b : Bool) → same_call call d ≡ b → cond b (take (request - 1) old ++ look_answer c before f w result ∷ []) old ≡ earlier ++ a ∷ [] → WasAnswered c (r ∷ before) d earlier a
        over true q e = here (subst (IsAnsweredBy c before d earlier a) (sym is) (beside _ _ _ q (ends_same (take (request - 1) old) earlier (look_answer c before f w result) a e)))
        over false q e = on (ih e)
    by (Grant at call request i mode f stamp ss) is ih e = over (same_call call d) refl e
      where
        over : (b : Bool) → same_call call d ≡ b → cond b (old ++ granted_answer mode i f stamp (kept_in c before at f) ∷ []) old ≡ earlier ++ a ∷ [] → WasAnswered c (r ∷ before) d earlier a
        over true q e = here (subst (IsAnsweredBy c before d earlier a) (sym is) (beside _ _ _ q (ends_same old earlier (granted_answer mode i f stamp (kept_in c before at f)) a e)))
        over false q e = on (ih e)
    by (Refuse at call request i mode f why) is ih e = over (same_call call d) refl e
      where
        over : (b : Bool) → same_call call d ≡ b → cond b (old ++ Refused why ∷ []) old ≡ earlier ++ a ∷ [] → WasAnswered c (r ∷ before) d earlier a
        over true q e = here (subst (IsAnsweredBy c before d earlier a) (sym is) (beside _ _ _ q (ends_same old earlier (Refused why) a e)))
        over false q e = on (ih e)
    by (Act at i n o result) is ih e = over (is_call (call_of_act before at i n) d) refl e
      where
        over : (b : Bool) → is_call (call_of_act before at i n) d ≡ b → cond b (old ++ outcome_answer result ∷ []) old ≡ earlier ++ a ∷ [] → WasAnswered c (r ∷ before) d earlier a
        over true q e = here (subst (IsAnsweredBy c before d earlier a) (sym is) (beside _ _ _ q (ends_same old earlier (outcome_answer result) a e)))
        over false q e = on (ih e)
    by (Release at i f stamp) is ih e = over (is_call (call_of_release before at i) d) refl e
      where
        over : (b : Bool) → is_call (call_of_release before at i) d ≡ b → cond b (old ++ close_answer stamp (instance_in (tree_of c at f.group before) i) ∷ []) old ≡ earlier ++ a ∷ [] → WasAnswered c (r ∷ before) d earlier a
        over true q e = here (subst (IsAnsweredBy c before d earlier a) (sym is) (beside _ _ _ q (ends_same old earlier (close_answer stamp (instance_in (tree_of c at f.group before) i)) a e)))
        over false q e = on (ih e)
    by _ is ih e = on (ih e)
