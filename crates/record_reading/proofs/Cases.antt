-- One of several, told by the first word: what is made of what stands behind it.
use Rattle.std.proofs.Common.{◌≡◌, ℕ, Bool, true, false, List, ◌∷◌, ◌++◌, Option, Some, refl, sym, ap, subst, ◌∙◌}
use Rattle.std.specs.Option.{option_map}
use Rattle.std.specs.Str.{bytes_eq}
use Rattle.std.specs.Prelude.{◌&&◌}
use Rattle.std.proofs.lemmas.Option.{same_Some}
use Rattle.std.proofs.lemmas.Slice.Eq.{bytes_eq-Decides}
use Rattle.line_text.proofs.CallForms.{map_some}
use Rattle.record_reading.proofs.Forms.{Exact, Says}

-- what follows the word, and what is made of it
pub record Case {A B : Type 0} (text : B → List ℕ) (fits : B → Bool) (word : List ℕ) (make : A → B) (read : List ℕ → Option A) : Type 0 where
  pub sound : (rest : List ℕ) (y : B) → option_map make (read rest) ≡ Some y → Says text fits (word ++ (32 ∷ rest)) y
  pub complete : (x : A) → fits (make x) ≡ true → (rest : List ℕ) × (text (make x) ≡ word ++ (32 ∷ rest)) × (option_map make (read rest) ≡ Some (make x))

pub case_of : {A B : Type 0} {ta : A → List ℕ} {fa : A → Bool} {read : List ℕ → Option A} {text : B → List ℕ} {fits : B → Bool} {word : List ℕ} {make : A → B} →
    Exact ta fa read → ((x : A) → word ++ (32 ∷ ta x) ≡ text (make x)) → ((x : A) → fa x ≡ fits (make x)) → Case text fits word make read
case_of {A} {B} {ta} {fa} {read} {text} {fits} {word} {make} form same fit = record {
  sound = λ rest y h. map_some make (read rest) y h (λ x e s.
      let q = form.sound rest x e in
      subst (Says text fits (word ++ (32 ∷ rest))) s (ap (λ l. word ++ (32 ∷ l)) q.0 ∙ same x, sym (fit x) ∙ q.1));
  complete = λ x h. (ta x, sym (same x), ap (option_map make) (form.complete x (fit x ∙ h)));
}

-- the first word is this one
pub led : {B : Type 0} (text : B → List ℕ) (fits : B → Bool) (w word rest : List ℕ) (y : B) → bytes_eq w word ≡ true → Says text fits (word ++ (32 ∷ rest)) y → Says text fits (w ++ (32 ∷ rest)) y
led text fits w word rest y h says = (ap (λ l. l ++ (32 ∷ rest)) ((bytes_eq-Decides w word).0 h) ∙ says.0, says.1)

-- a word that says all
pub said : {B : Type 0} (text : B → List ℕ) (fits : B → Bool) (w word : List ℕ) (x y : B) → bytes_eq w word ≡ true → Some x ≡ Some y → word ≡ text x → fits x ≡ true → Says text fits w y
said text fits w word x y h e t f = subst (Says text fits w) (same_Some x y e) ((bytes_eq-Decides w word).0 h ∙ t, f)

pub and_true : (b : Bool) → b ≡ (b && true)
and_true true = refl
and_true false = refl
