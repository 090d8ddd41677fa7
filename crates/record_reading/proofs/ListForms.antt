-- The forms of lists.
use Rattle.std.proofs.Common.{◌≡◌, ℕ, ◌==◌, Bool, true, false, codes, List, [], ◌∷◌, ◌++◌, map, Option, Some, None, refl, sym, ap, subst, ◌∙◌, append_assoc, ⊎_elim, rules}
use Rattle.std.specs.Prelude.{◌&&◌, not}
use Rattle.std.specs.Fmt.{decimal}
use Rattle.std.specs.List.{flat_map, join_by, join_with_byte, list_all}
use Rattle.std.specs.Str.{bytes_eq}
use Rattle.std.proofs.lemmas.Bool.{and_parts, false≢true}
use Rattle.std.proofs.lemmas.List.Splits.{join_with_byte-slice_split}
use Rattle.std.proofs.lemmas.Option.{none-some, option_and_then_some, same_Some}
use Rattle.std.proofs.lemmas.Slice.Eq.{bytes_eq-Decides}
use Rattle.locus_ids.specs.declared.ids.Brought.{Brought}
use Rattle.locus_ids.specs.declared.ids.Stamp.{Stamp}
use Rattle.trace_book.specs.Text.{copies_text, copy_text, optional_stamp_text, stamp_text, stamps_text}
use Rattle.line_text.specs.Words.{pieces, split_at, two_words}
use Rattle.line_text.proofs.CallForms.{and_both, cond_either, map_some}
use Rattle.line_text.proofs.Splits.{pieces_of, pieces_split, split_found, split_none, split_sound, true_or_false}
use Rattle.record_words.specs.Fields.{all_in, copies_in, group_in, optional_stamp_in, stamp_in, stamps_in}
use Rattle.record_words.specs.Order.{ascend}
use Rattle.record_reading.specs.Ranges.{is_brought, is_group, is_optional_stamp, is_stamp}
use Rattle.record_reading.specs.Records.{group_with}
use Rattle.record_reading.proofs.Bytes.{all_append, free, free_lacks}
use Rattle.record_reading.proofs.Cases.{said}
use Rattle.record_reading.proofs.FieldForms.{brought_text, brought_word, group_word, stamp_word}
use Rattle.record_reading.proofs.Forms.{Exact, Free, Says, Word, tested_form}

-- ---- words one by one

all_sound : {A : Type 0} {t : A → List ℕ} {f : A → Bool} {r : List ℕ → Option A} → Exact t f r → (ws : List (List ℕ)) (xs : List A) → all_in r ws ≡ Some xs → (ws ≡ map t xs) × (list_all f xs ≡ true)
all_sound {A} {t} {f} {r} form [] xs h = subst (λ l. ([] ≡ map t l) × (list_all f l ≡ true)) (same_Some [] xs h) (refl, refl)
all_sound {A} {t} {f} {r} form (w ∷ ws) xs h =
    option_and_then_some _ (r w) xs h (λ y e g.
    map_some (λ ys. y ∷ ys) (all_in r ws) xs g (λ ys k s.
    let p = form.sound w y e in
    let q = all_sound form ws ys k in
    subst (λ l. (w ∷ ws ≡ map t l) × (list_all f l ≡ true)) s (ap (λ l. l ∷ ws) p.0 ∙ ap (λ l. t y ∷ l) q.0, and_both (f y) (list_all f ys) p.1 q.1)))

all_complete : {A : Type 0} {t : A → List ℕ} {f : A → Bool} {r : List ℕ → Option A} → Exact t f r → (xs : List A) → list_all f xs ≡ true → all_in r (map t xs) ≡ Some xs
all_complete form [] h = refl
all_complete {A} {t} {f} {r} form (x ∷ xs) h =
    let p = and_parts (f x) (list_all f xs) h in
    rw (form.complete x p.0, all_complete form xs p.1) refl

-- ---- words with a byte between each two

joined_again : {A : Type 0} (t : A → List ℕ) (b : ℕ) (x : A) (xs : List A) → join_with_byte b (map t (x ∷ xs)) ≡ t x ++ flat_map (λ y. b ∷ t y) xs
joined_again t b x [] = let e : t x ++ [] ≡ t x = search rules in sym e
joined_again t b x (y ∷ ys) = ap (λ l. t x ++ (b ∷ l)) (joined_again t b y ys)

pub joins : {A : Type 0} (t : A → List ℕ) (b : ℕ) (xs : List A) → join_with_byte b (map t xs) ≡ join_by t (b ∷ []) xs
joins t b [] = refl
joins t b (x ∷ xs) = joined_again t b x xs

pub split_again : {A : Type 0} (t : A → List ℕ) (f : A → Bool) (b : ℕ) → Free b t f → (x : A) (xs : List A) → list_all f (x ∷ xs) ≡ true → pieces b (t x ++ flat_map (λ y. b ∷ t y) xs) ≡ map t (x ∷ xs)
split_again t f b lacks x [] h =
    let p = and_parts (f x) true h in
    let e : t x ++ [] ≡ t x = search rules in
    ap (pieces b) e ∙ pieces_split b (t x) ∙ ap (pieces_of b (t x)) (split_none b (t x) (free_lacks b (t x) (lacks x p.0)))
split_again t f b lacks x (y ∷ ys) h =
    let p = and_parts (f x) (list_all f (y ∷ ys)) h in
    let rest = t y ++ flat_map (λ z. b ∷ t z) ys in
    pieces_split b (t x ++ (b ∷ rest)) ∙ ap (pieces_of b (t x ++ (b ∷ rest))) (split_found b (t x) rest (free_lacks b (t x) (lacks x p.0))) ∙ ap (λ l. t x ∷ l) (split_again t f b lacks y ys p.1)

some_pieces : (b : ℕ) (w : List ℕ) → pieces b w ≡ [] → ⊥
some_pieces b w h = of (split_at b w) (pieces_split b w)
  where
    of : (o : Option (List ℕ × List ℕ)) → pieces b w ≡ pieces_of b w o → ⊥
    of None e = cc
    of (Some p) e = cc

abbrev pub has_item : {A : Type 0} → List A → Bool
has_item [] = false
has_item (x ∷ xs) = true

-- there is an item, and each is in range
abbrev pub some_fit : {A : Type 0} → (A → Bool) → List A → Bool
some_fit fits xs = has_item xs && list_all fits xs

pub some_items : {A : Type 0} (t : A → List ℕ) (b : ℕ) (w : List ℕ) (xs : List A) → pieces b w ≡ map t xs → has_item xs ≡ true
some_items t b w [] h = absurd (some_pieces b w h)
some_items t b w (x ∷ xs) h = refl

list_complete : {A : Type 0} {t : A → List ℕ} {f : A → Bool} {r : List ℕ → Option A} (b : ℕ) → Exact t f r → Free b t f → (xs : List A) → some_fit f xs ≡ true → all_in r (pieces b (join_by t (b ∷ []) xs)) ≡ Some xs
list_complete b form lacks [] h = absurd (false≢true h)
list_complete {A} {t} {f} {r} b form lacks (x ∷ xs) h =
    let p = and_parts true (list_all f (x ∷ xs)) h in
    ap (all_in r) (split_again t f b lacks x xs p.1) ∙ all_complete form (x ∷ xs) p.1

pub list_form : {A : Type 0} {t : A → List ℕ} {f : A → Bool} {r : List ℕ → Option A} (b : ℕ) → Exact t f r → Free b t f → Exact (join_by t (b ∷ [])) (some_fit f) (λ w. all_in r (pieces b w))
list_form {A} {t} {f} {r} b form lacks = record {
  sound = λ w xs h.
      let p = all_sound form (pieces b w) xs h in
      (sym (join_with_byte-slice_split b w) ∙ ap (join_with_byte b) p.0 ∙ joins t b xs, and_both (has_item xs) (list_all f xs) (some_items t b w xs p.0) p.1);
  complete = list_complete b form lacks;
}

-- ---- stamps

stamp_plain : Word 32 stamp_text is_stamp stamp_in
stamp_plain = stamp_word 32 refl refl

stamp_list : Exact (join_by stamp_text (codes ",")) (some_fit is_stamp) (λ w. all_in stamp_in (pieces 44 w))
stamp_list = list_form 44 stamp_plain.form (stamp_word 44 refl refl).free

not_dash : {A : Type 0} (r : List ℕ → Option A) (w : List ℕ) (x : A) → r (codes "-") ≡ None → r w ≡ Some x → bytes_eq w (codes "-") ≡ false
not_dash r w x n h =
    ⊎_elim
    (λ (e : bytes_eq w (codes "-") ≡ true). absurd (none-some x (sym n ∙ ap r (sym ((bytes_eq-Decides w (codes "-")).0 e)) ∙ h)))
    (λ (e : bytes_eq w (codes "-") ≡ false). e)
    (true_or_false (bytes_eq w (codes "-")))

stamps_sound : (w : List ℕ) (xs : List Stamp) → stamps_in w ≡ Some xs → Says stamps_text (list_all is_stamp) w xs
stamps_sound w xs h =
    cond_either (bytes_eq w (codes "-")) _ _ _ h
    (λ b e. said stamps_text (list_all is_stamp) w (codes "-") [] xs b e refl refl)
    (λ b e. some xs (stamp_list.sound w xs e))
  where
    some : (xs : List Stamp) → Says (join_by stamp_text (codes ",")) (some_fit is_stamp) w xs → Says stamps_text (list_all is_stamp) w xs
    some [] says = absurd (false≢true says.1)
    some (y ∷ ys) says = (says.0, (and_parts true (list_all is_stamp (y ∷ ys)) says.1).1)

stamps_complete : (xs : List Stamp) → list_all is_stamp xs ≡ true → stamps_in (stamps_text xs) ≡ Some xs
stamps_complete [] h = refl
stamps_complete (x ∷ xs) h =
    let read = stamp_list.complete (x ∷ xs) (and_both true (list_all is_stamp (x ∷ xs)) refl h) in
    rw (not_dash (λ w. all_in stamp_in (pieces 44 w)) (stamps_text (x ∷ xs)) (x ∷ xs) refl read) read

tail_free : (xs : List Stamp) → list_all is_stamp xs ≡ true → free 32 (flat_map (λ y. 44 ∷ stamp_text y) xs) ≡ true
tail_free [] h = refl
tail_free (x ∷ xs) h =
    let p = and_parts (is_stamp x) (list_all is_stamp xs) h in
    all_append (λ c. not (c == 32)) (stamp_text x) (flat_map (λ y. 44 ∷ stamp_text y) xs) (stamp_plain.free x p.0) (tail_free xs p.1)

stamps_free : (xs : List Stamp) → list_all is_stamp xs ≡ true → free 32 (stamps_text xs) ≡ true
stamps_free [] h = refl
stamps_free (x ∷ xs) h =
    let p = and_parts (is_stamp x) (list_all is_stamp xs) h in
    all_append (λ c. not (c == 32)) (stamp_text x) (flat_map (λ y. 44 ∷ stamp_text y) xs) (stamp_plain.free x p.0) (tail_free xs p.1)

pub stamps_word : Word 32 stamps_text (list_all is_stamp) stamps_in
stamps_word = record { form = record { sound = stamps_sound; complete = stamps_complete }; free = stamps_free }

optional_sound : (w : List ℕ) (x : Option Stamp) → optional_stamp_in w ≡ Some x → Says optional_stamp_text is_optional_stamp w x
optional_sound w x h =
    cond_either (bytes_eq w (codes "-")) _ _ _ h
    (λ b e. said optional_stamp_text is_optional_stamp w (codes "-") None x b e refl refl)
    (λ b e. map_some (λ s. Some s) (stamp_in w) x e (λ s k g. subst (Says optional_stamp_text is_optional_stamp w) g (stamp_plain.form.sound w s k)))

optional_complete : (x : Option Stamp) → is_optional_stamp x ≡ true → optional_stamp_in (optional_stamp_text x) ≡ Some x
optional_complete None h = refl
optional_complete (Some s) h =
    let read = stamp_plain.form.complete s h in
    rw (not_dash stamp_in (stamp_text s) s refl read, read) refl

optional_free : (x : Option Stamp) → is_optional_stamp x ≡ true → free 32 (optional_stamp_text x) ≡ true
optional_free None h = refl
optional_free (Some s) h = stamp_plain.free s h

pub optional_stamp_word : Word 32 optional_stamp_text is_optional_stamp optional_stamp_in
optional_stamp_word = record { form = record { sound = optional_sound; complete = optional_complete }; free = optional_free }

-- ---- a group, and what its members brought

copy_list : Exact (join_by brought_text (codes " ")) (λ xs. some_fit is_brought xs && ascend xs) copies_in
copy_list = tested_form ascend (list_form 32 brought_word.form brought_word.free)

copy_again : (c : Brought) → 32 ∷ brought_text c ≡ copy_text c
copy_again c = sym (append_assoc (codes " " ++ decimal c.ino) (codes "=") (stamp_text c.stamp))

copies_again : (xs : List Brought) → flat_map (λ y. 32 ∷ brought_text y) xs ≡ copies_text xs
copies_again [] = refl
copies_again (x ∷ xs) = ap (λ l. l ++ flat_map (λ y. 32 ∷ brought_text y) xs) (copy_again x) ∙ ap (λ l. copy_text x ++ l) (copies_again xs)

abbrev pub group_text : ℕ × List Brought → List ℕ
group_text p = decimal p.0 ++ copies_text p.1

abbrev pub is_start : ℕ × List Brought → Bool
is_start p = is_group p.0 && (list_all is_brought p.1 && ascend p.1)

abbrev group_bytes_in : List ℕ → Option (ℕ × List Brought)
group_bytes_in bytes = group_with bytes (two_words bytes)

group_sound : (w : List ℕ) (o : Option (List ℕ × List ℕ)) (y : ℕ × List Brought) → two_words w ≡ o → group_with w o ≡ Some y → Says group_text is_start w y
group_sound w None y e h = map_some (λ group. (group, [])) (group_in w) y h (λ group k s.
    let p = group_word.form.sound w group k in
    let none : decimal group ++ [] ≡ decimal group = search rules in
    subst (Says group_text is_start w) s (p.0 ∙ sym none, and_both (is_group group) true p.1 refl))
group_sound w (Some q) y e h =
    option_and_then_some _ (group_in q.0) y h (λ group k g.
    map_some (λ copies. (group, copies)) (copies_in q.1) y g (λ copies m s.
    let p = group_word.form.sound q.0 group k in
    subst (Says group_text is_start w) s (some group copies (split_sound 32 w q e ∙ ap (λ l. l ++ (32 ∷ q.1)) p.0) p.1 (copy_list.sound q.1 copies m))))
  where
    some : (group : ℕ) (copies : List Brought) → w ≡ decimal group ++ (32 ∷ q.1) → is_group group ≡ true → Says (join_by brought_text (codes " ")) (λ xs. some_fit is_brought xs && ascend xs) q.1 copies → Says group_text is_start w (group, copies)
    some group [] t f says = absurd (false≢true says.1)
    some group (x ∷ xs) t f says =
        let a = and_parts (some_fit is_brought (x ∷ xs)) (ascend (x ∷ xs)) says.1 in
        let b = and_parts true (list_all is_brought (x ∷ xs)) a.0 in (
          t ∙ ap (λ l. decimal group ++ (32 ∷ l)) says.0 ∙ ap (λ l. decimal group ++ l) (copies_again (x ∷ xs)),
          and_both (is_group group) (list_all is_brought (x ∷ xs) && ascend (x ∷ xs)) f (and_both (list_all is_brought (x ∷ xs)) (ascend (x ∷ xs)) b.1 a.1),
        )

group_complete : (p : ℕ × List Brought) → is_start p ≡ true → group_bytes_in (group_text p) ≡ Some p
group_complete p h = of p.0 p.1 h
  where
    of : (group : ℕ) (copies : List Brought) → is_start (group, copies) ≡ true → group_bytes_in (group_text (group, copies)) ≡ Some (group, copies)
    of group [] h =
        let f = (and_parts (is_group group) true h).0 in
        let none : decimal group ++ [] ≡ decimal group = search rules in
        rw (none, split_none 32 (decimal group) (free_lacks 32 (decimal group) (group_word.free group f)), group_word.form.complete group f) refl
    of group (x ∷ xs) h =
        let a = and_parts (is_group group) (list_all is_brought (x ∷ xs) && ascend (x ∷ xs)) h in
        let b = and_parts (list_all is_brought (x ∷ xs)) (ascend (x ∷ xs)) a.1 in
        let rest = join_by brought_text (codes " ") (x ∷ xs) in
        let read = copy_list.complete (x ∷ xs) (and_both (some_fit is_brought (x ∷ xs)) (ascend (x ∷ xs)) b.0 b.1) in
        ap (λ l. group_bytes_in (decimal group ++ l)) (sym (copies_again (x ∷ xs)))
        ∙ rw (split_found 32 (decimal group) rest (free_lacks 32 (decimal group) (group_word.free group a.0)), group_word.form.complete group a.0, read) refl

pub group_form : Exact group_text is_start (λ bytes. group_with bytes (two_words bytes))
group_form = record { sound = λ w y h. group_sound w (two_words w) y refl h; complete = group_complete }
