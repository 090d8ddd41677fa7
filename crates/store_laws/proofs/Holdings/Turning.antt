-- What a commit and an operation leave of the open instances of a tree.
use Rattle.std.proofs.Common.{◌≡◌, ℕ, ◌==◌, Bool, true, false, not, ◌&&◌, cond, List, [], ◌∷◌, filter, Option, Some, None, refl, sym, ap, ◌∙◌, subst, arith}
use Rattle.std.proofs.lemmas.Bool.Decides.{nat_tests}
use Rattle.std.specs.List.{AllByRecursion}
use Rattle.tree_laws.proofs.of_plain_facts.Numbers.{equal_self}
use Rattle.tree_laws.proofs.of_plain_facts.Tests.{and_first, and_second, true_false}
use Rattle.locus_ids.specs.declared.ids.FileId.{FileId}
use Rattle.commit_graph.specs.declared.history.Version.{Version}
use Rattle.commit_graph.specs.Grants.{is_read}
use Rattle.commit_graph.specs.Versions.{same_file}
use Rattle.trace_book.specs.declared.operation.Op.{Op}
use Rattle.trace_book.specs.declared.operation.Op.TheVariants as op
use Rattle.trace_book.specs.declared.operation.Outcome.{Outcome}
use Rattle.tree_model.specs.of_file_effects.Effects.{Effect, is_refusal}
use Rattle.tree_model.specs.of_file_effects.Works.{carried_out, counted}
use Rattle.tree_model.specs.of_file_effects.declared.work.Work.{Work}
use Rattle.tree_model.specs.declared.instance.Instance.{Instance}
use Rattle.tree_model.specs.Lists.{change_first}
use Rattle.tree_model.specs.State.{TreeState, is_writer}
use Rattle.tree_model.specs.Working.{effect_on, operated_by, work_after}
use Rattle.tree_laws.specs.of_lawful_trace.TreeRows.{is_writing}
use Rattle.tree_laws.specs.Orders.Alone.{AreAlone, MayStandBy}
use Rattle.tree_laws.proofs.Orders.Lists.{all_then}
use Rattle.tree_laws.proofs.Orders.Standing.{same_file_eq}

-- ---- lists of instances ----

-- one that passes is changed
pub all_passing : {X : Type 0} (P Q : X → Type 0) (q : X → Bool) (change : X → X) → ((x : X) → P x → Q x) → ((x : X) → q x ≡ true → P x → Q (change x)) → (xs : List X) → AllByRecursion P xs → AllByRecursion Q (change_first q change xs)
all_passing P Q q change keep turn [] all = tt
all_passing P Q q change keep turn (x ∷ xs) all = at (q x) refl (all_passing P Q q change keep turn xs all.1)
  where
    at : (b : Bool) → q x ≡ b → AllByRecursion Q (change_first q change xs) → AllByRecursion Q (cond b (change x ∷ xs) (x ∷ change_first q change xs))
    at true e later = (turn x e all.0, all_then P Q keep xs all.1)
    at false e later = (keep x all.0, later)

-- the one that writes a file is changed, and no other of the file is open
module _ (f : FileId) (z : ℕ) (y : Instance) (change : Instance → Instance) (P Q : Instance → Type 0) (keep : (x : Instance) → same_file x.grant.file f ≡ false → P x → Q x) (turn : (x : Instance) → is_writer f z x ≡ true → P x → Q (change x)) (at_site : y.grant.ss ≡ z) where
  writes_of : (x : Instance) → is_writer f z x ≡ true → (same_file x.grant.file f ≡ true) × (is_read x.grant.mode ≡ false)
  writes_of x e = (and_first (same_file x.grant.file f) _ e, un (is_read x.grant.mode) (and_second (x.grant.ss == z) _ (and_second (same_file x.grant.file f) _ e)))
    where
      un : (b : Bool) → not b ≡ true → b ≡ false
      un true e = absurd (true_false (sym e))
      un false e = refl

  -- beside one that writes the file all are of other files
  beside : (x w : Instance) → is_writer f z x ≡ true → MayStandBy x w → (b : Bool) → same_file w.grant.file f ≡ b → b ≡ false
  beside x w e by false k = refl
  beside x w e by true k = absurd (true_false (sym (by one).0 ∙ (writes_of x e).1))
    where
      own : (g : FileId) → same_file g g ≡ true
      own g = grind (arith, nat_tests)

      one : same_file x.grant.file w.grant.file ≡ true
      one = subst (λ (g : FileId). same_file x.grant.file g ≡ true) (same_file_eq x.grant.file f (writes_of x e).0 ∙ sym (same_file_eq w.grant.file f k)) (own x.grant.file)

  rest_apart : (x : Instance) (xs : List Instance) → is_writer f z x ≡ true → AllByRecursion (MayStandBy x) xs → AllByRecursion P xs → AllByRecursion Q xs
  rest_apart x [] e by all = tt
  rest_apart x (w ∷ ws) e by all = (keep w (beside x w e by.0 (same_file w.grant.file f) refl) all.0, rest_apart x ws e by.1 all.1)

  -- what stands by the one isn't of the file, if it doesn't write it
  stands_off : (x : Instance) (xs : List Instance) → AllByRecursion (MayStandBy x) xs → filter (is_writing f) xs ≡ y ∷ [] → same_file x.grant.file f ≡ true → ⊥
  stands_off x [] by e same = empty e
    where
      empty : ◌≡◌ {A = List Instance} [] (y ∷ []) → ⊥
      empty e = cc
  stands_off x (w ∷ ws) by e same = at (is_writing f w) refl e (λ k. stands_off x ws by.1 k same)
    where
      own : (g : FileId) → same_file g g ≡ true
      own g = grind (arith, nat_tests)

      un : (b : Bool) → not b ≡ true → b ≡ true → ⊥
      un true e k = true_false (sym e)
      un false e k = true_false (sym k)

      at : (b : Bool) → is_writing f w ≡ b → cond b (w ∷ filter (is_writing f) ws) (filter (is_writing f) ws) ≡ y ∷ [] → (filter (is_writing f) ws ≡ y ∷ [] → ⊥) → ⊥
      at true k e later = un (is_read w.grant.mode) (and_second (same_file w.grant.file f) _ k)
          (by.0 (subst (λ (g : FileId). same_file x.grant.file g ≡ true) (same_file_eq x.grant.file f same ∙ sym (same_file_eq w.grant.file f (and_first (same_file w.grant.file f) _ k))) (own x.grant.file))).1
      at false k e later = later e

  pub all_turned : (xs : List Instance) → AreAlone xs → filter (is_writing f) xs ≡ y ∷ [] → AllByRecursion P xs → AllByRecursion Q (change_first (is_writer f z) change xs)
  all_turned [] alone one all = tt
  all_turned (x ∷ xs) alone one all = at (is_writer f z x) refl (is_writing f x) refl one (λ k. all_turned xs alone.1 k all.1)
    where
      head : ◌≡◌ {A = List Instance} (x ∷ filter (is_writing f) xs) (y ∷ []) → x ≡ y
      head e = cc

      -- who writes the file writes it at the site
      writes : is_writing f x ≡ true → x ≡ y → is_writer f z x ≡ true
      writes k is = both (same_file x.grant.file f) (x.grant.ss == z) (not (is_read x.grant.mode)) k (subst (λ (n : ℕ). (x.grant.ss == n) ≡ true) (ap (λ (w : Instance). w.grant.ss) is ∙ at_site) (equal_self x.grant.ss))
        where
          both : (a b d : Bool) → a && d ≡ true → b ≡ true → a && (b && d) ≡ true
          both true true d k l = k
          both true false d k l = absurd (true_false (sym l))
          both false b d k l = absurd (true_false (sym k))

      off : (b : Bool) → same_file x.grant.file f ≡ b → filter (is_writing f) xs ≡ y ∷ [] → b ≡ false
      off true k e = absurd (stands_off x xs alone.0 e k)
      off false k e = refl

      at : (b : Bool) → is_writer f z x ≡ b → (a : Bool) → is_writing f x ≡ a → cond a (x ∷ filter (is_writing f) xs) (filter (is_writing f) xs) ≡ y ∷ []
          → (filter (is_writing f) xs ≡ y ∷ [] → AllByRecursion Q (change_first (is_writer f z) change xs)) → AllByRecursion Q (cond b (change x ∷ xs) (x ∷ change_first (is_writer f z) change xs))
      at true e a k one later = (turn x e all.0, rest_apart x xs e alone.0 all.1)
      at false e true k one later = absurd (true_false (sym (writes k (head one)) ∙ e))
      at false e false k one later = (keep x (off (same_file x.grant.file f) refl one) all.0, later one)

-- ---- what an operation leaves ----

operated_last : (result : Outcome) (e : Option Effect) (w : Work) → (operated_by result e w).last ≡ w.last
operated_last result None w = refl
operated_last result (Some e) w = at (is_refusal result)
  where
    at : (b : Bool) → (cond b (counted w) (carried_out e w)).last ≡ w.last
    at true = refl
    at false = refl

pub acted_last : (h : List Version) (t : TreeState) (o : Op) (result : Outcome) (x : Instance) → (work_after h t o result x).last ≡ x.work.last
acted_last h t op.Commit result x = refl
acted_last h t op.Abort result x = refl
acted_last h t op.Mend result x = operated_last result (effect_on h t op.Mend x) x.work
acted_last h t (op.Probe name) result x = operated_last result (effect_on h t (op.Probe name) x) x.work
acted_last h t (op.Find component) result x = operated_last result (effect_on h t (op.Find component) x) x.work
acted_last h t (op.Insert name ino kind) result x = operated_last result (effect_on h t (op.Insert name ino kind) x) x.work
acted_last h t (op.Remove name ino) result x = operated_last result (effect_on h t (op.Remove name ino) x) x.work
acted_last h t (op.Rename component name) result x = operated_last result (effect_on h t (op.Rename component name) x) x.work
acted_last h t op.Empty result x = operated_last result (effect_on h t op.Empty x) x.work
acted_last h t (op.Read at len) result x = operated_last result (effect_on h t (op.Read at len) x) x.work
acted_last h t (op.Write at bytes) result x = operated_last result (effect_on h t (op.Write at bytes) x) x.work
acted_last h t (op.Cut len) result x = operated_last result (effect_on h t (op.Cut len) x) x.work
