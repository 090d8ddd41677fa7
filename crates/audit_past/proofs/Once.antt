-- What a record changes where names are given once: the one call, the one instance.
use Rattle.std.proofs.Common.{◌≡◌, ◌≤◌, Bool, true, false, cond, List, [], ◌∷◌, ◌++◌, length, filter, Option, Some, None, refl, sym, ap, ◌∙◌, zero-add}
use Rattle.std.specs.List.{find, list_any}
use Rattle.locus_ids.specs.declared.ids.CallId.{CallId}
use Rattle.locus_ids.specs.declared.ids.EpochId.{EpochId}
use Rattle.locus_ids.specs.declared.ids.FileId.{FileId}
use Rattle.locus_ids.specs.declared.ids.Mode.{Mode}
use Rattle.locus_ids.specs.declared.ids.Serial.{Serial}
use Rattle.locus_ids.specs.declared.ids.Stamp.{Stamp}
use Rattle.trace_book.specs.declared.descriptor.OneVersion.{OneVersion}
use Rattle.call_rules.specs.declared.answer.Answer.{Answer}
use Rattle.call_rules.specs.Opening.{is_steady}
use Rattle.tree_model.specs.Calls.{version_at}
use Rattle.promises.specs.Past.{Past, CallSoFar}
use Rattle.promises.specs.After.{change, is_id, process_of}
use Rattle.past_laws.proofs.Changing.{change_none, find_filter, found_any, only_one, none_after}
use Rattle.past_laws.proofs.Names.{false_true, some_same}

-- two tests that pass the same one alone change the same
pub one_changed : {X : Type 0} (q r : X → Bool) (f : X → X) (xs : List X) (x : X) → length (filter q xs) ≤ 1 → length (filter r xs) ≤ 1 → find q xs ≡ Some x → r x ≡ true → change q f xs ≡ change r f xs
one_changed q r f [] x few less found h = refl
one_changed {X} q r f (y ∷ xs) x few less found h = at (one_changed q r f xs x) (q y) (r y) refl refl
  where
    none : (s : X → Bool) → s y ≡ true → length (filter s (y ∷ xs)) ≤ 1 → list_any s xs ≡ false
    none s e m = none_after s y xs (rw e at m)

    left : (s : X → Bool) → s y ≡ false → length (filter s (y ∷ xs)) ≤ 1 → length (filter s xs) ≤ 1
    left s e m = rw e at m

    at : (length (filter q xs) ≤ 1 → length (filter r xs) ≤ 1 → find q xs ≡ Some x → r x ≡ true → change q f xs ≡ change r f xs) → (a b : Bool) → q y ≡ a → r y ≡ b → cond (q y) (f y) y ∷ change q f xs ≡ cond (r y) (f y) y ∷ change r f xs
    at later true true d e = rw (d, e) (ap (λ ys. f y ∷ ys) (change_none q f xs (none q d few) ∙ sym (change_none r f xs (none r e less))))
    at later true false d e = false_true (sym e ∙ (ap r (some_same y x (rw d at found)) ∙ h))
    at later false true d e = false_true (sym (none r e less) ∙ found_any q r xs x (rw d at found) h)
    at later false false d e = rw (d, e) (ap (λ ys. y ∷ ys) (later (left q d few) (left r e less) (rw d at found) h))

-- the process of a call is that of the one of its name
pub process_named : (p : Past) (id : CallId) (k : CallSoFar) → length (filter (is_id id) p.calls) ≤ 1 → find (is_id id) p.calls ≡ Some k → process_of p id ≡ k.process
process_named p id k few found = rw (only_one (is_id id) p.calls k few found) (zero-add k.process)

-- what two changes do alike to the one that passes they do alike to all
pub change_alike : {X : Type 0} (q : X → Bool) (f g : X → X) (xs : List X) (x : X) → length (filter q xs) ≤ 1 → find q xs ≡ Some x → f x ≡ g x → change q f xs ≡ change q g xs
change_alike q f g [] x few found h = refl
change_alike {X} q f g (y ∷ xs) x few found h = at (change_alike q f g xs x) (q y) refl
  where
    at : (length (filter q xs) ≤ 1 → find q xs ≡ Some x → f x ≡ g x → change q f xs ≡ change q g xs) → (b : Bool) → q y ≡ b → cond (q y) (f y) y ∷ change q f xs ≡ cond (q y) (g y) y ∷ change q g xs
    at later true e = rw e (ap (λ z. z ∷ change q f xs) (ap f own ∙ (h ∙ ap g (sym own))) ∙ ap (λ ys. g y ∷ ys) (change_none q f xs none ∙ sym (change_none q g xs none)))
      where
        own : y ≡ x
        own = some_same y x (rw e at found)

        none : list_any q xs ≡ false
        none = none_after q y xs (rw e at few)
    at later false e = rw e (ap (λ ys. y ∷ ys) (later (rw e at few) (rw e at found) h))

-- a change after another change of the same is the two as one
pub change_twice : {X : Type 0} (q : X → Bool) (f g : X → X) → ((x : X) → q x ≡ true → q (f x) ≡ true) → (xs : List X) → change q g (change q f xs) ≡ change q (λ x. g (f x)) xs
change_twice q f g keep [] = refl
change_twice {X} q f g keep (x ∷ xs) = at (change_twice q f g keep xs) (q x) refl
  where
    at : change q g (change q f xs) ≡ change q (λ y. g (f y)) xs → (b : Bool) → q x ≡ b → cond (q (cond (q x) (f x) x)) (g (cond (q x) (f x) x)) (cond (q x) (f x) x) ∷ change q g (change q f xs) ≡ cond (q x) (g (f x)) x ∷ change q (λ y. g (f y)) xs
    at later true e = rw (e, keep x e) (ap (λ ys. g (f x) ∷ ys) later)
    at later false e = rw (e, e) (ap (λ ys. x ∷ ys) later)

pub process_unnamed : (p : Past) (id : CallId) → find (is_id id) p.calls ≡ None → process_of p id ≡ 0
process_unnamed p id lost = rw (find_filter (is_id id) p.calls lost) refl

-- what two changes do alike to the one that passes, if one does, they do alike to all
pub one_alike : {X : Type 0} (q : X → Bool) (f g : X → X) (xs : List X) → length (filter q xs) ≤ 1 → ((x : X) → find q xs ≡ Some x → f x ≡ g x) → change q f xs ≡ change q g xs
one_alike q f g [] few h = refl
one_alike {X} q f g (y ∷ xs) few h = at (one_alike q f g xs) (q y) refl
  where
    at : (length (filter q xs) ≤ 1 → ((x : X) → find q xs ≡ Some x → f x ≡ g x) → change q f xs ≡ change q g xs) → (b : Bool) → q y ≡ b → cond (q y) (f y) y ∷ change q f xs ≡ cond (q y) (g y) y ∷ change q g xs
    at later true e = rw e (ap (λ z. z ∷ change q f xs) (h y (rw e refl)) ∙ ap (λ ys. g y ∷ ys) (change_none q f xs none ∙ sym (change_none q g xs none)))
      where
        none : list_any q xs ≡ false
        none = none_after q y xs (rw e at few)
    at later false e = rw e (ap (λ ys. y ∷ ys) (later (rw e at few) (λ x found. h x (rw e found))))

-- the call that a grant is of keeps its version where its words ask so
pub granted_kept : (ks : List CallSoFar) (id : CallId) (mode : Mode) (e : EpochId) (i : Serial) (v : Option OneVersion) (f : FileId) (stamp : Option Stamp) (a : Answer) → length (filter (is_id id) ks) ≤ 1
    → ((k : CallSoFar) → find (is_id id) ks ≡ Some k → v ≡ cond (is_steady k.words) (version_at f stamp) None)
    → change (is_id id) (λ (k : CallSoFar). record k { granted = Some (record { mode = mode; epoch = e; inst = i; steady = v }); answers = k.answers ++ a ∷ [] }) ks
    ≡ change (is_id id) (λ (k : CallSoFar). record k { granted = Some (record { mode = mode; epoch = e; inst = i; steady = cond (is_steady k.words) (version_at f stamp) None }); answers = k.answers ++ a ∷ [] }) ks
granted_kept ks id mode e i v f stamp a few h =
    one_alike (is_id id) (λ (k : CallSoFar). record k { granted = Some (record { mode = mode; epoch = e; inst = i; steady = v }); answers = k.answers ++ a ∷ [] })
    (λ (k : CallSoFar). record k { granted = Some (record { mode = mode; epoch = e; inst = i; steady = cond (is_steady k.words) (version_at f stamp) None }); answers = k.answers ++ a ∷ [] })
    ks few (λ k found. ap (λ (s : Option OneVersion). record k { granted = Some (record { mode = mode; epoch = e; inst = i; steady = s }); answers = k.answers ++ a ∷ [] }) (h k found))
