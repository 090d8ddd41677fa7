-- The tree after an act, by what becomes of the instance.
use Rattle.std.proofs.Common.{◌≡◌, ◌==◌, ◌+◌, ℕ, Bool, true, false, ◌&&◌, cond, List, [], ◌∷◌, Option, None, Some, refl, sym, ap, ◌∙◌, ⊎_elim}
use Rattle.std.specs.List.{find}
use Rattle.std.proofs.lemmas.Bool.{cases_Bool}
use Rattle.role_steps.proofs.of_plain_facts.Options.{none_some, some_same}
use Rattle.locus_ids.specs.declared.ids.Serial.{Serial}
use Rattle.commit_graph.specs.declared.history.Version.{Version}
use Rattle.trace_book.specs.declared.operation.Op.{Op}
use Rattle.trace_book.specs.declared.operation.Outcome.{Outcome}
use Rattle.file_effects.specs.declared.work.Work.{Work}
use Rattle.tree_model.specs.declared.instance.Instance.{Instance}
use Rattle.tree_model.specs.Given.{gives_act, instance_gives}
use Rattle.tree_model.specs.Lists.{change_first}
use Rattle.tree_model.specs.Same.{is_given}
use Rattle.tree_model.specs.State.{TreeState, instance_in, is_named}
use Rattle.tree_model.specs.Tree.{acted, is_passed_probe, once_acted, with_make}
use Rattle.tree_model.specs.Working.{result_on, work_after}
use Rattle.tree_tables.specs.Worked.{worked}
use Rattle.tree_acts.specs.Acting.{acted_work, given_work}

-- the first that passes is what a search finds
changed_alike : (p : Instance → Bool) (f g : Instance → Instance) (xs : List Instance) (x : Instance) → find p xs ≡ Some x → f x ≡ g x → change_first p f xs ≡ change_first p g xs
changed_alike p f g [] x e same = refl
changed_alike p f g (y ∷ ys) x e same =
    ⊎_elim (λ (t : p y ≡ true). let is : y ≡ x = some_same y x (rw t at e) in rw t (ap (λ z. z ∷ ys) (ap f is ∙ same ∙ ap g (sym is))))
    (λ (o : p y ≡ false). rw o (ap (λ zs. y ∷ zs) (changed_alike p f g ys x (rw o at e) same)))
    (cases_Bool (p y))

-- the tree with this in place of what the instance was, and its make underway where a probe has passed
abbrev pub with_work : TreeState → Serial → Op → Outcome → Work → TreeState
with_work t i o result w = record t {
  instances = change_first (is_named i) (worked w) t.instances;
  makes = cond (is_passed_probe o result) (with_make (instance_in t i) t.makes) t.makes;
}

given_by : (b : Bool) (w after : Work) → Some w ≡ cond b (Some after) None → b ≡ true
given_by true w after h = refl
given_by false w after h = absurd (none_some w (sym h))

left_by : (b : Bool) (w after : Work) → Some w ≡ cond b (Some after) None → w ≡ after
left_by true w after h = some_same w after h
left_by false w after h = absurd (none_some w (sym h))

not_by : (b : Bool) (after : Work) → None ≡ cond b (Some after) None → b ≡ false
not_by true after h = absurd (none_some after h)
not_by false after h = refl

first_by : (a : Bool) (w : Work) (rest : Option Work) → Some w ≡ cond a rest None → (a ≡ true) × (Some w ≡ rest)
first_by true w rest h = (refl, h)
first_by false w rest h = absurd (none_some w (sym h))

module _ (h : List Version) (t : TreeState) (i : Serial) (n : ℕ) (o : Op) (result : Outcome) where
  gives_by : (found : Option Instance) (w : Work) → Some w ≡ acted_work h t n o result found → instance_gives h t n o result found ≡ true
  gives_by None w e = absurd (none_some w (sym e))
  gives_by (Some x) w e =
      let parts = first_by (n == x.work.ops + 1) w (given_work h t o result x) e in
      rw parts.0 (given_by (is_given (result_on h t o x) result) w (work_after h t o result x) parts.1)

  pub gives_so : (w : Work) → Some w ≡ acted_work h t n o result (instance_in t i) → true ≡ gives_act h t i n o result
  gives_so w e = sym (gives_by (instance_in t i) w e)

  gives_not : (found : Option Instance) → None ≡ acted_work h t n o result found → instance_gives h t n o result found ≡ false
  gives_not None e = refl
  gives_not (Some x) e = by_test (n == x.work.ops + 1) e
    where
      by_test : (a : Bool) → None ≡ cond a (given_work h t o result x) None → (a && is_given (result_on h t o x) result) ≡ false
      by_test true e = not_by (is_given (result_on h t o x) result) (work_after h t o result x) e
      by_test false e = refl

  pub gives_not_so : None ≡ acted_work h t n o result (instance_in t i) → false ≡ gives_act h t i n o result
  gives_not_so e = sym (gives_not (instance_in t i) e)

  becomes_by : (found : Option Instance) (w : Work) → Some w ≡ acted_work h t n o result found → instance_in t i ≡ found
      → change_first (is_named i) (worked w) t.instances ≡ change_first (is_named i) (once_acted h t o result) t.instances
  becomes_by None w e is = absurd (none_some w (sym e))
  becomes_by (Some x) w e is =
      let parts = first_by (n == x.work.ops + 1) w (given_work h t o result x) e in
      let left : w ≡ work_after h t o result x = left_by (is_given (result_on h t o x) result) w (work_after h t o result x) parts.1 in
      changed_alike (is_named i) (worked w) (once_acted h t o result) t.instances x is (ap (λ (v : Work). worked v x) left)

  pub becomes_so : (w : Work) → Some w ≡ acted_work h t n o result (instance_in t i) → with_work t i o result w ≡ acted h i o result t
  becomes_so w e =
      ap (λ (xs : List Instance). record t { instances = xs; makes = cond (is_passed_probe o result) (with_make (instance_in t i) t.makes) t.makes })
      (becomes_by (instance_in t i) w e refl)
