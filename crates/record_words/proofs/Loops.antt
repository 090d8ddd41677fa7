-- Lists that are read word by word.
use Rattle.std.proofs.Common.{◌≡◌, ℕ, List, [], ◌∷◌, ◌++◌, true, Option, Some, None, slice_set, ◌-◌, refl, sym, ap, ◌∙◌, append_assoc, ◌+◌, ◌<◌, ◌≤◌, length, arith, length-append}
use Rattle.std.specs.Option.{option_and_then, option_map}
use Rattle.std.proofs.lemmas.Option.{option_and_then_some}
use Rattle.line_text.specs.Words.{number_in, pieces, split_at}
use Rattle.line_text.proofs.Splits.{pieces_of, pieces_split, split_sound}
use Rattle.locus_ids.specs.Sizes.{sites_max}
use Rattle.locus_ids.specs.declared.ids.Brought.{Brought}
use Rattle.locus_ids.specs.declared.ids.Member.{Member}
use Rattle.line_text.proofs.CallForms.{map_some}
use Rattle.line_text.proofs.NumberTexts.{between_parts, number_sound}
use Rattle.record_words.specs.Fields.{all_in, counted_in, joined_in, member_from, with_members}
use Rattle.record_words.specs.Order.{ascend}

-- these items, and those that the rest of the words are
abbrev pub onto : {A : Type 0} → (List ℕ → Option A) → ℕ → List A → List ℕ → Option (List A)
onto read b items rest = option_map (λ more. items ++ more) (all_in read (pieces b rest))

pub map_nothing : {A : Type 0} → (o : Option (List A)) → option_map (λ more. [] ++ more) o ≡ o
map_nothing None = refl
map_nothing (Some xs) = refl

pub onto_first : {A : Type 0} → (read : List ℕ → Option A) (b : ℕ) (bytes : List ℕ) → onto read b [] bytes ≡ all_in read (pieces b bytes)
onto_first read b bytes = map_nothing (all_in read (pieces b bytes))

regroup : {A : Type 0} → (items : List A) (x : A) (o : Option (List A)) →
    option_map (λ more. items ++ more) (option_map (λ xs. x ∷ xs) o) ≡ option_map (λ more. (items ++ (x ∷ [])) ++ more) o
regroup items x None = refl
regroup items x (Some xs) = ap Some (sym (append_assoc items (x ∷ []) xs))

pub onto_more : {A : Type 0} → (read : List ℕ → Option A) (b : ℕ) (items : List A) (rest word more : List ℕ) (x : A) →
    split_at b rest ≡ Some (word, more) → read word ≡ Some x → onto read b items rest ≡ onto read b (items ++ (x ∷ [])) more
onto_more read b items rest word more x e h =
    let split : pieces b rest ≡ word ∷ pieces b more = pieces_split b rest ∙ ap (pieces_of b rest) e in
    rw (split, h) (regroup items x (all_in read (pieces b more)))

pub onto_none : {A : Type 0} → (read : List ℕ → Option A) (b : ℕ) (items : List A) (rest word more : List ℕ) →
    split_at b rest ≡ Some (word, more) → read word ≡ None → onto read b items rest ≡ None
onto_none read b items rest word more e h =
    let split : pieces b rest ≡ word ∷ pieces b more = pieces_split b rest ∙ ap (pieces_of b rest) e in
    rw (split, h) refl

pub onto_last : {A : Type 0} → (read : List ℕ → Option A) (b : ℕ) (items : List A) (rest : List ℕ) (x : A) →
    split_at b rest ≡ None → read rest ≡ Some x → onto read b items rest ≡ Some (items ++ (x ∷ []))
onto_last read b items rest x e h =
    let split : pieces b rest ≡ rest ∷ [] = pieces_split b rest ∙ ap (pieces_of b rest) e in
    rw (split, h) refl

pub onto_never : {A : Type 0} → (read : List ℕ → Option A) (b : ℕ) (items : List A) (rest : List ℕ) →
    split_at b rest ≡ None → read rest ≡ None → onto read b items rest ≡ None
onto_never read b items rest e h =
    let split : pieces b rest ≡ rest ∷ [] = pieces_split b rest ∙ ap (pieces_of b rest) e in
    rw (split, h) refl

-- what follows a split is shorter
pub split_shorter : (b : ℕ) (rest word more : List ℕ) → split_at b rest ≡ Some (word, more) → length more < length rest
split_shorter b rest word more e =
    let whole = split_sound b rest (word, more) e in
    let size : length rest ≡ length word + length (b ∷ more) = ap length whole ∙ length-append word (b ∷ more) in
    omega arith

-- ---- members

pub member_more : (least : ℕ) (boots rest word more : List ℕ) → split_at 44 rest ≡ Some (word, more) →
    with_members least boots (pieces 44 rest) ≡ option_and_then (λ m. with_members (m.site + 1) (slice_set boots (m.site - 1) m.boot) (pieces 44 more)) (member_from least word)
member_more least boots rest word more e = ap (with_members least boots) (pieces_split 44 rest ∙ ap (pieces_of 44 rest) e)

pub member_last : (least : ℕ) (boots rest : List ℕ) → split_at 44 rest ≡ None →
    with_members least boots (pieces 44 rest) ≡ option_and_then (λ m. Some (record { boot = slice_set boots (m.site - 1) m.boot })) (member_from least rest)
member_last least boots rest e = ap (with_members least boots) (pieces_split 44 rest ∙ ap (pieces_of 44 rest) e)

-- a member's site is one that a cluster can have
pub member_low : (least : ℕ) (word : List ℕ) (m : Member) → member_from least word ≡ Some m → m.site ≤ sites_max
member_low least word m h =
    map_some _ (joined_in 58 (number_in least sites_max) counted_in word) m h (λ t e s.
    option_and_then_some _ (split_at 58 word) t e (λ p e1 g1.
    option_and_then_some _ (number_in least sites_max p.0) t g1 (λ site e2 g2.
    map_some (λ boot. (site, boot)) (counted_in p.1) t g2 (λ boot e3 s1.
    let top : site ≤ sites_max = (between_parts least sites_max site (number_sound least sites_max p.0 site e2).1).1 in
    let one : t.0 ≡ site = ap (λ (q : ℕ × ℕ). q.0) (sym s1) in
    let two : m.site ≡ t.0 = ap (λ (q : Member). q.site) (sym s) in
    omega arith))))

-- ---- order

pub short_ascends : (copies : List Brought) → length copies < 2 → true ≡ ascend copies
short_ascends [] h = refl
short_ascends (a ∷ []) h = refl
short_ascends (a ∷ b ∷ more) h = absurd (omega arith)
