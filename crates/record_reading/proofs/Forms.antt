-- Readers with their texts: what is read has the text and is in range, and what is in range is read from its text.
use Rattle.std.proofs.Common.{◌≡◌, ℕ, ◌<◌, ◌^◌, ◌==◌, Bool, true, cond, List, [], ◌∷◌, ◌++◌, Option, Some, None, refl, sym, ap, subst, ◌∙◌, arith, eq-eqb}
use Rattle.std.specs.Prelude.{◌&&◌, not}
use Rattle.std.specs.Fmt.{decimal}
use Rattle.std.specs.Option.{option_and_then, option_map}
use Rattle.std.specs.Str.{bytes_eq}
use Rattle.std.proofs.lemmas.Bool.{and_parts, eqb-true}
use Rattle.std.proofs.lemmas.Slice.Eq.{bytes_eq-Decides}
use Rattle.std.proofs.lemmas.Option.{cond_some, none-some, option_and_then_some, same_Some}
use Rattle.schedule_lines.specs.Ranges.{is_between}
use Rattle.line_text.specs.Words.{number_in, split_at}
use Rattle.line_text.proofs.CallForms.{and_both, map_some, range_complete}
use Rattle.line_text.proofs.NumberTexts.{between_parts, number_sound}
use Rattle.line_text.proofs.Splits.{split_found, split_sound}
use Rattle.record_words.specs.Fields.{after_letter, joined_in, tested, words_in, words_with}
use Rattle.record_reading.proofs.Bytes.{all_joined, decimal_free, free, free_lacks, is_digit_byte}

-- the text is this value's, which is in range
abbrev pub Says : {A : Type 0} → (A → List ℕ) → (A → Bool) → List ℕ → A → Type 0
Says text fits w x = (w ≡ text x) × (fits x ≡ true)

-- a value is read as the one that stands for it
pub record Form {A : Type 0} (text : A → List ℕ) (fits : A → Bool) (stands : A → A) (read : List ℕ → Option A) : Type 0 where
  pub sound : (w : List ℕ) (x : A) → read w ≡ Some x → Says text fits w x
  pub complete : (x : A) → fits x ≡ true → read (text x) ≡ Some (stands x)

-- a value is read as itself
abbrev pub Exact : {A : Type 0} → (A → List ℕ) → (A → Bool) → (List ℕ → Option A) → Type 0
Exact text fits read = Form text fits (λ x. x) read

-- no text has this byte
abbrev pub Free : {A : Type 0} → ℕ → (A → List ℕ) → (A → Bool) → Type 0
Free {A} b text fits = (x : A) → fits x ≡ true → free b (text x) ≡ true

pub number_form : (low most : ℕ) → most < 2 ^ 32 → Exact decimal (is_between low most) (number_in low most)
number_form low most small = record {
  sound = λ w n h. number_sound low most w n h;
  complete = λ n h. range_complete low most n small h;
}

pub number_free : (b low most : ℕ) → not (is_digit_byte b) ≡ true → most < 2 ^ 32 → Free b decimal (is_between low most)
number_free b low most digit small n h = let top = (between_parts low most n h).1 in decimal_free b n digit (omega (arith, top))

-- two texts with a byte between them
abbrev pub joined_text : {A B : Type 0} → ℕ → (A → List ℕ) → (B → List ℕ) → A × B → List ℕ
joined_text b first rest p = first p.0 ++ (b ∷ rest p.1)

abbrev pub both_fit : {A B : Type 0} → (A → Bool) → (B → Bool) → A × B → Bool
both_fit first rest p = first p.0 && rest p.1

pub joined_form : {A B : Type 0} {ta : A → List ℕ} {fa : A → Bool} {ra : List ℕ → Option A} {tb : B → List ℕ} {fb : B → Bool} {sb : B → B} {rb : List ℕ → Option B} (b : ℕ) →
    Exact ta fa ra → Free b ta fa → Form tb fb sb rb → Form (joined_text b ta tb) (both_fit fa fb) (λ p. (p.0, sb p.1)) (joined_in b ra rb)
joined_form {A} {B} {ta} {fa} {ra} {tb} {fb} {sb} {rb} b first lacks rest = record {
  sound = λ w p h. option_and_then_some _ (split_at b w) p h (λ q e g.
      option_and_then_some _ (ra q.0) p g (λ x ex k.
      map_some (λ y. (x, y)) (rb q.1) p k (λ y ey s.
      let f = first.sound q.0 x ex in
      let r = rest.sound q.1 y ey in
      subst (Says (joined_text b ta tb) (both_fit fa fb) w) s
      (split_sound b w q e ∙ ap (λ l. l ++ (b ∷ q.1)) f.0 ∙ ap (λ l. ta x ++ (b ∷ l)) r.0, and_both (fa x) (fb y) f.1 r.1))));
  complete = λ p h.
      let t = and_parts (fa p.0) (fb p.1) h in
      rw (split_found b (ta p.0) (tb p.1) (free_lacks b (ta p.0) (lacks p.0 t.0)), first.complete p.0 t.0, rest.complete p.1 t.1) refl;
}

-- a word, and what follows in the form that belongs to it
abbrev pub with_text : {A B : Type 0} → (A → List ℕ) → (A → B → List ℕ) → A × B → List ℕ
with_text first rest p = first p.0 ++ (32 ∷ rest p.0 p.1)

abbrev pub with_fits : {A B : Type 0} → (A → Bool) → (A → B → Bool) → A × B → Bool
with_fits first rest p = first p.0 && rest p.0 p.1

pub with_form : {A B : Type 0} {ta : A → List ℕ} {fa : A → Bool} {ra : List ℕ → Option A} {tb : A → B → List ℕ} {fb : A → B → Bool} {rb : A → List ℕ → Option B} →
    Exact ta fa ra → Free 32 ta fa → ((a : A) → Exact (tb a) (fb a) (rb a)) → Exact (with_text ta tb) (with_fits fa fb) (words_with ra rb)
with_form {A} {B} {ta} {fa} {ra} {tb} {fb} {rb} first lacks rest = record {
  sound = λ w p h. option_and_then_some _ (split_at 32 w) p h (λ q e g.
      option_and_then_some _ (ra q.0) p g (λ x ex k.
      map_some (λ y. (x, y)) (rb x q.1) p k (λ y ey s.
      let f = first.sound q.0 x ex in
      let r = (rest x).sound q.1 y ey in
      subst (Says (with_text ta tb) (with_fits fa fb) w) s
      (split_sound 32 w q e ∙ ap (λ l. l ++ (32 ∷ q.1)) f.0 ∙ ap (λ l. ta x ++ (32 ∷ l)) r.0, and_both (fa x) (fb x y) f.1 r.1))));
  complete = λ p h.
      let t = and_parts (fa p.0) (fb p.0 p.1) h in
      rw (split_found 32 (ta p.0) (tb p.0 p.1) (free_lacks 32 (ta p.0) (lacks p.0 t.0)), first.complete p.0 t.0, (rest p.0).complete p.1 t.1) refl;
}

-- what follows a letter
pub letter_form : {A : Type 0} {t : A → List ℕ} {f : A → Bool} {s : A → A} {r : List ℕ → Option A} (c : ℕ) →
    Form t f s r → Form (λ x. c ∷ t x) f s (λ w. option_and_then r (after_letter c w))
letter_form {A} {t} {f} {s} {r} c form = record { sound = sound; complete = λ x h. rw (eq-eqb c c refl) (form.complete x h) }
  where
    sound : (w : List ℕ) (x : A) → option_and_then r (after_letter c w) ≡ Some x → Says (λ x. c ∷ t x) f w x
    sound [] x h = absurd (none-some x h)
    sound (b ∷ bs) x h = option_and_then_some r (cond (b == c) (Some bs) None) x h (λ rest e g.
        let p = cond_some (b == c) bs rest e in
        let q = form.sound rest x g in
        (ap (λ l. l ∷ bs) (eqb-true b c p.0) ∙ ap (λ l. c ∷ l) (p.1 ∙ q.0), q.1))

-- a value made of what is read
pub made_form : {A B : Type 0} {ta : A → List ℕ} {fa : A → Bool} {r : List ℕ → Option A} {tb : B → List ℕ} {fb : B → Bool} (make : A → B) (parts : B → A) →
    ((y : B) → make (parts y) ≡ y) → ((x : A) → ta x ≡ tb (make x)) → ((x : A) → fa x ≡ fb (make x)) → Exact ta fa r → Exact tb fb (λ w. option_map make (r w))
made_form {A} {B} {ta} {fa} {r} {tb} {fb} make parts whole text fits form = record {
  sound = λ w y h. map_some make (r w) y h (λ x e s.
      let q = form.sound w x e in
      subst (Says tb fb w) s (q.0 ∙ text x, sym (fits x) ∙ q.1));
  complete = λ y h.
      let t : tb y ≡ ta (parts y) = ap tb (sym (whole y)) ∙ sym (text (parts y)) in
      let f : fa (parts y) ≡ true = fits (parts y) ∙ ap fb (whole y) ∙ h in
      rw (t, form.complete (parts y) f) (ap Some (whole y));
}

-- a value that is tested
pub tested_form : {A : Type 0} {t : A → List ℕ} {f : A → Bool} {r : List ℕ → Option A} (test : A → Bool) →
    Exact t f r → Exact t (λ x. f x && test x) (λ w. tested test (r w))
tested_form {A} {t} {f} {r} test form = record {
  sound = λ w y h. option_and_then_some _ (r w) y h (λ x e g.
      let p = cond_some (test x) x y g in
      let q = form.sound w x e in
      subst (Says t (λ x. f x && test x) w) p.1 (q.0, and_both (f x) (test x) q.1 p.0));
  complete = λ x h.
      let p = and_parts (f x) (test x) h in
      rw (form.complete x p.0, p.1) refl;
}

-- ---- one of several

-- what is made of what is read behind a word has the text
pub case_sound : {A B : Type 0} {ta : A → List ℕ} {fa : A → Bool} {sa : A → A} {r : List ℕ → Option A} (tb : B → List ℕ) (fb : B → Bool) (lead : List ℕ) (make : A → B) →
    Form ta fa sa r → ((x : A) → lead ++ ta x ≡ tb (make x)) → ((x : A) → fa x ≡ fb (make x)) → (w : List ℕ) (y : B) → option_map make (r w) ≡ Some y → Says tb fb (lead ++ w) y
case_sound {A} {B} {ta} {fa} {sa} {r} tb fb lead make form text fits w y h = map_some make (r w) y h (λ x e s.
    let q = form.sound w x e in
    subst (Says tb fb (lead ++ w)) s (ap (λ l. lead ++ l) q.0 ∙ text x, sym (fits x) ∙ q.1))

-- a word that is one of two sorts
pub word_sound : {B : Type 0} (tb : B → List ℕ) (fb : B → Bool) (w word : List ℕ) (x y : B) → word ≡ tb x → fb x ≡ true → bytes_eq w word ≡ true → Some x ≡ Some y → Says tb fb w y
word_sound {B} tb fb w word x y t f h e = subst (Says tb fb w) (same_Some x y e) ((bytes_eq-Decides w word).0 h ∙ t, f)

-- ---- the same form in other words

pub told_form : {A : Type 0} {t u : A → List ℕ} {f g : A → Bool} {s : A → A} {r : List ℕ → Option A} → ((x : A) → t x ≡ u x) → ((x : A) → f x ≡ g x) → Form t f s r → Form u g s r
told_form {A} {t} {u} {f} {g} {s} {r} text fits form = record {
  sound = λ w x h. let p = form.sound w x h in (p.0 ∙ text x, sym (fits x) ∙ p.1);
  complete = λ x h. ap r (sym (text x)) ∙ form.complete x (fits x ∙ h);
}

-- ---- words: forms whose texts have some byte nowhere

pub record Word {A : Type 0} (b : ℕ) (text : A → List ℕ) (fits : A → Bool) (read : List ℕ → Option A) : Type 0 where
  pub form : Exact text fits read
  pub free : Free b text fits

pub number_word : (b low most : ℕ) → not (is_digit_byte b) ≡ true → most < 2 ^ 32 → Word b decimal (is_between low most) (number_in low most)
number_word b low most digit small = record { form = number_form low most small; free = number_free b low most digit small }

pub joined_word : {A B : Type 0} {ta : A → List ℕ} {fa : A → Bool} {ra : List ℕ → Option A} {tb : B → List ℕ} {fb : B → Bool} {rb : List ℕ → Option B} (b c : ℕ) →
    not (c == b) ≡ true → Free c ta fa → Word b ta fa ra → Word b tb fb rb → Word b (joined_text c ta tb) (both_fit fa fb) (joined_in c ra rb)
joined_word {A} {B} {ta} {fa} {ra} {tb} {fb} {rb} b c unlike apart first rest = record {
  form = joined_form c first.form apart rest.form;
  free = λ p h.
      let t = and_parts (fa p.0) (fb p.1) h in
      all_joined (λ d. not (d == b)) c (ta p.0) (tb p.1) unlike (first.free p.0 t.0) (rest.free p.1 t.1);
}

pub letter_word : {A : Type 0} {t : A → List ℕ} {f : A → Bool} {r : List ℕ → Option A} (b c : ℕ) →
    not (c == b) ≡ true → Word b t f r → Word b (λ x. c ∷ t x) f (λ w. option_and_then r (after_letter c w))
letter_word {A} {t} {f} {r} b c unlike word = record {
  form = letter_form c word.form;
  free = λ x h. and_both (not (c == b)) (free b (t x)) unlike (word.free x h);
}

pub made_word : {A B : Type 0} {ta : A → List ℕ} {fa : A → Bool} {r : List ℕ → Option A} {tb : B → List ℕ} {fb : B → Bool} (b : ℕ) (make : A → B) (parts : B → A) →
    ((y : B) → make (parts y) ≡ y) → ((x : A) → ta x ≡ tb (make x)) → ((x : A) → fa x ≡ fb (make x)) → Word b ta fa r → Word b tb fb (λ w. option_map make (r w))
made_word {A} {B} {ta} {fa} {r} {tb} {fb} b make parts whole text fits word = record {
  form = made_form make parts whole text fits word.form;
  free = λ y h.
      let t : tb y ≡ ta (parts y) = ap tb (sym (whole y)) ∙ sym (text (parts y)) in
      ap (free b) t ∙ word.free (parts y) (fits (parts y) ∙ ap fb (whole y) ∙ h);
}

pub tested_word : {A : Type 0} {t : A → List ℕ} {f : A → Bool} {r : List ℕ → Option A} (b : ℕ) (test : A → Bool) →
    Word b t f r → Word b t (λ x. f x && test x) (λ w. tested test (r w))
tested_word {A} {t} {f} {r} b test word = record {
  form = tested_form test word.form;
  free = λ x h. word.free x (and_parts (f x) (test x) h).0;
}

pub told_word : {A : Type 0} {t u : A → List ℕ} {f g : A → Bool} {r : List ℕ → Option A} (b : ℕ) → ((x : A) → t x ≡ u x) → ((x : A) → f x ≡ g x) → Word b t f r → Word b u g r
told_word {A} {t} {u} {f} {g} {r} b text fits word = record {
  form = told_form text fits word.form;
  free = λ x h. ap (free b) (sym (text x)) ∙ word.free x (fits x ∙ h);
}

-- a word, its space and what follows
pub spaced : {A B : Type 0} {ta : A → List ℕ} {fa : A → Bool} {ra : List ℕ → Option A} {tb : B → List ℕ} {fb : B → Bool} {sb : B → B} {rb : List ℕ → Option B} →
    Word 32 ta fa ra → Form tb fb sb rb → Form (joined_text 32 ta tb) (both_fit fa fb) (λ p. (p.0, sb p.1)) (words_in ra rb)
spaced first rest = joined_form 32 first.form first.free rest
