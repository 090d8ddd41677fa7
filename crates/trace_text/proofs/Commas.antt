-- Texts with commas between them, made one after the other.
use Rattle.std.proofs.Common.{◌≡◌, ℕ, suc, List, [], ◌∷◌, ◌++◌, refl, sym, ap, ◌∙◌, append_assoc}
use Rattle.std.specs.Prelude.{Bool, true, false, cond, codes, ◌==◌, get_or}
use Rattle.std.specs.List.{flat_map}
use Rattle.std.proofs.lemmas.List.{append-nil}
use Rattle.std.proofs.lemmas.Grind.{flat_map-append}
use Rattle.locus_ids.specs.Sites.{has}
use Rattle.locus_ids.specs.declared.sites.Sites.{Sites}
use Rattle.locus_ids.specs.declared.ids.Member.{Member}
use Rattle.trace_book.specs.Text.{with_commas, member_text, sites_to, members_to}

-- no item has come yet
abbrev pub none_yet : {X : Type 0} → List X → Bool
none_yet [] = true
none_yet (x ∷ xs) = false

-- a comma, but before the first item
abbrev pub comma : Bool → List ℕ
comma first = cond first [] (codes ",")

pub none_yet-snoc : {X : Type 0} (xs : List X) (x : X) → none_yet (xs ++ x ∷ []) ≡ false
none_yet-snoc [] x = refl
none_yet-snoc (y ∷ ys) x = refl

-- one more item takes a comma, if it is not the first, and its text
pub with_commas-snoc : {X : Type 0} (f : X → List ℕ) (xs : List X) (x : X) → with_commas f (xs ++ x ∷ []) ≡ with_commas f xs ++ comma (none_yet xs) ++ f x
with_commas-snoc f [] x = append-nil (f x)
with_commas-snoc {X = X} f (y ∷ ys) x =
    let g : X → List ℕ = λ z. codes "," ++ f z in
    rw (flat_map-append g ys (x ∷ [])) (rw (append-nil (g x)) (sym (append_assoc (f y) (flat_map g ys) (g x)) ∙ sym (append_assoc (f y ++ flat_map g ys) (codes ",") (f x))))

-- a site of the set comes after those before it
pub sites_to-in : (sites : Sites) (n m : ℕ) → m ≡ suc n → has sites m ≡ true → sites_to sites m ≡ sites_to sites n ++ m ∷ []
sites_to-in sites n m e = rw e (λ h. rw h refl)

pub sites_to-out : (sites : Sites) (n m : ℕ) → m ≡ suc n → has sites m ≡ false → sites_to sites m ≡ sites_to sites n
sites_to-out sites n m e = rw e (λ h. rw h (append-nil (sites_to sites n)))

-- a member comes after those before it
pub members_to-in : (boots : List ℕ) (n m : ℕ) → m ≡ suc n → (get_or boots n 0 == 0) ≡ false → members_to boots m ≡ members_to boots n ++ (record { site = m; boot = get_or boots n 0 }) ∷ []
members_to-in boots n m e = rw e (λ h. rw h refl)

pub members_to-out : (boots : List ℕ) (n m : ℕ) → m ≡ suc n → (get_or boots n 0 == 0) ≡ true → members_to boots m ≡ members_to boots n
members_to-out boots n m e = rw e (λ h. rw h (append-nil (members_to boots n)))

-- what a loop over the places has written after one more member
pub members_written : (init was out boots : List ℕ) (n m : ℕ) (first : Bool) → m ≡ suc n → (get_or boots n 0 == 0) ≡ false → was ≡ init ++ with_commas member_text (members_to boots n) → first ≡ none_yet (members_to boots n) → out ≡ was ++ comma first ++ member_text (record { site = m; boot = get_or boots n 0 }) → out ≡ init ++ with_commas member_text (members_to boots m)
members_written init was out boots n m first e present before yet now =
    let so_far : List Member = members_to boots n in
    let next : Member = record { site = m; boot = get_or boots n 0 } in
    let text : List ℕ = with_commas member_text so_far in
    now
    ∙ ap (λ z. z ++ comma first ++ member_text next) before
    ∙ ap (λ b. init ++ text ++ comma b ++ member_text next) yet
    ∙ ap (λ z. z ++ member_text next) (append_assoc init text (comma (none_yet so_far)))
    ∙ append_assoc init (text ++ comma (none_yet so_far)) (member_text next)
    ∙ ap (λ z. init ++ z) (sym (with_commas-snoc member_text so_far next))
    ∙ ap (λ l. init ++ with_commas member_text l) (sym (members_to-in boots n m e present))

pub members_begun : (boots : List ℕ) (n m : ℕ) → m ≡ suc n → (get_or boots n 0 == 0) ≡ false → false ≡ none_yet (members_to boots m)
members_begun boots n m e present = rw (members_to-in boots n m e present) (sym (none_yet-snoc (members_to boots n) (record { site = m; boot = get_or boots n 0 })))

-- what it has written at its end
pub members_ended : (init out boots : List ℕ) (n m : ℕ) → n ≡ m → out ≡ init ++ with_commas member_text (members_to boots n) → out ≡ init ++ with_commas member_text (members_to boots m)
members_ended init out boots n m e = rw e (λ h. h)
