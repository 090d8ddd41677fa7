-- Each open instance has a serial of its own, whatever becomes of them.
use Rattle.std.proofs.Common.{◌≡◌, ℕ, ◌+◌, ◌≤◌, Bool, true, false, not, cond, List, [], ◌∷◌, ◌++◌, length, filter, set, get_or, take, drop, zero, suc, Some, None, refl, sym, ap, ◌∙◌, subst, arith}
use Rattle.std.specs.List.{list_any, position_from}
use Rattle.std.proofs.lemmas.List.{length-append}
use Rattle.locus_ids.specs.declared.ids.Serial.{Serial}
use Rattle.trace_book.specs.Same.{same_serial}
use Rattle.tree_model.specs.declared.instance.Granted.{Granted}
use Rattle.past_laws.specs.of_promises.Past.{Instance, is_named}
use Rattle.past_laws.specs.of_promises.After.{change}
use Rattle.past_laws.proofs.Names.{serial_eq}
use Rattle.past_laws.proofs.Changing.{filter_changed, length_changed, change_once, without_once}
use Rattle.past_laws.proofs.TreesLists.{filter_less, of_none}
use Rattle.row_lists.proofs.Reversed.{filter_append}
use Rattle.tree_tables.proofs.RowLists.{changed-at, change_first-nowhere, without_first-at, without_first-nowhere}

abbrev pub Own : List Instance → Type 0
Own xs = (i : Serial) → length (filter (is_named i) xs) ≤ 1

at_most : (a b c : ℕ) → a ≡ b → b ≤ c → a ≤ c
at_most a b c e h = omega (arith, e, h)

pub own_changed : (p : Instance → Bool) (f : Instance → Instance) → ((x : Instance) → (f x).grant.inst ≡ x.grant.inst) → (xs after : List Instance) → after ≡ change p f xs → Own xs → Own after
own_changed p f keeps xs after e own i =
    at_most (length (filter (is_named i) after)) (length (filter (is_named i) xs)) 1
    (ap (λ ys. length (filter (is_named i) ys)) e
    ∙ (ap length (filter_changed (is_named i) p f (λ x h. ap (λ s. same_serial s i) (keeps x)) xs) ∙ length_changed p f (filter (is_named i) xs)))
    (own i)

pub own_pushed : (xs after : List Instance) (x : Instance) → after ≡ xs ++ x ∷ [] → list_any (is_named x.grant.inst) xs ≡ false → Own xs → Own after
own_pushed xs after x e none own i =
    at_most (length (filter (is_named i) after)) (length (filter (is_named i) xs ++ filter (is_named i) (x ∷ []))) 1
    (ap (λ ys. length (filter (is_named i) ys)) e ∙ ap length (filter_append (is_named i) xs (x ∷ [])))
    (at (same_serial x.grant.inst i) refl)
  where
    at : (b : Bool) → same_serial x.grant.inst i ≡ b → length (filter (is_named i) xs ++ cond b (x ∷ []) []) ≤ 1
    at true h =
        let none_here : list_any (is_named i) xs ≡ false = ap (λ s. list_any (is_named s) xs) (sym (serial_eq x.grant.inst i h)) ∙ none in
        subst (λ (ys : List Instance). length (ys ++ x ∷ []) ≤ 1) (sym (of_none (is_named i) xs none_here)) (omega arith)
    at false h = at_most (length (filter (is_named i) xs ++ [])) (length (filter (is_named i) xs)) 1 (length-append (filter (is_named i) xs) [] ∙ plus_none (length (filter (is_named i) xs))) (own i)
      where
        plus_none : (n : ℕ) → n + 0 ≡ n
        plus_none n = omega arith

pub own_without : (p : Instance → Bool) (xs after : List Instance) → after ≡ filter (λ x. not (p x)) xs → Own xs → Own after
own_without p xs after e own i =
    let less : length (filter (is_named i) (filter (λ x. not (p x)) xs)) ≤ length (filter (is_named i) xs) = filter_less (is_named i) (λ x. not (p x)) xs in
    at_most_of (length (filter (is_named i) after)) (length (filter (is_named i) (filter (λ x. not (p x)) xs))) (length (filter (is_named i) xs))
    (ap (λ ys. length (filter (is_named i) ys)) e) less (own i)
  where
    at_most_of : (a b d : ℕ) → a ≡ b → b ≤ d → d ≤ 1 → a ≤ 1
    at_most_of a b d e h k = omega (arith, e, h, k)

-- The instance at the place of its name.

pub changed_there : (i : Serial) (f : Instance → Instance) (now new : Instance) (table inside slice : List Instance) (k : ℕ) → inside ≡ table → slice ≡ inside
    → Some k ≡ position_from (is_named i) 0 slice → now ≡ get_or inside k now → new ≡ f now → Own inside → set inside k new ≡ change (is_named i) f table
changed_there i f now new table inside slice k view lent found is becomes own =
    ap (λ x. set inside k x) becomes
    ∙ (changed-at (is_named i) f now table inside slice k view lent found is
    ∙ sym (change_once (is_named i) f table (subst (λ (xs : List Instance). length (filter (is_named i) xs) ≤ 1) view (own i))))

pub changed_nowhere : (i : Serial) (f : Instance → Instance) (table inside slice : List Instance) → inside ≡ table → slice ≡ inside
    → None ≡ position_from (is_named i) 0 slice → Own inside → table ≡ change (is_named i) f table
changed_nowhere i f table inside slice view lent found own =
    change_first-nowhere (is_named i) f table inside slice view lent found
    ∙ sym (change_once (is_named i) f table (subst (λ (xs : List Instance). length (filter (is_named i) xs) ≤ 1) view (own i)))

pub gone_there : (i : Serial) (table inside slice after : List Instance) (k : ℕ) → inside ≡ table → slice ≡ inside
    → Some k ≡ position_from (is_named i) 0 slice → after ≡ take k inside ++ drop (suc k) inside → Own inside → after ≡ filter (λ x. not (is_named i x)) table
gone_there i table inside slice after k view lent found is own =
    is ∙ (without_first-at (is_named i) table inside slice k view lent found
    ∙ sym (without_once (is_named i) table (subst (λ (xs : List Instance). length (filter (is_named i) xs) ≤ 1) view (own i))))

pub gone_nowhere : (i : Serial) (table inside slice : List Instance) → inside ≡ table → slice ≡ inside
    → None ≡ position_from (is_named i) 0 slice → Own inside → table ≡ filter (λ x. not (is_named i x)) table
gone_nowhere i table inside slice view lent found own =
    without_first-nowhere (is_named i) table inside slice view lent found
    ∙ sym (without_once (is_named i) table (subst (λ (xs : List Instance). length (filter (is_named i) xs) ≤ 1) view (own i)))

-- the serials stay apart where one instance is changed
pub own_there : (i : Serial) (f : Instance → Instance) → ((x : Instance) → (f x).grant.inst ≡ x.grant.inst) → (now new : Instance) (inside slice : List Instance) (k : ℕ) → slice ≡ inside
    → Some k ≡ position_from (is_named i) 0 slice → now ≡ get_or inside k now → new ≡ f now → Own inside → Own (set inside k new)
own_there i f keeps now new inside slice k lent found is becomes own =
    own_changed (is_named i) f keeps inside (set inside k new) (changed_there i f now new inside inside slice k (λ j. inside) lent found is becomes own) own

-- what is put in the place of one has its name
pub own_kept : (i : Serial) (now new : Instance) (inside slice : List Instance) (k : ℕ) → slice ≡ inside
    → Some k ≡ position_from (is_named i) 0 slice → now ≡ get_or inside k now → new.grant ≡ now.grant → Own inside → Own (set inside k new)
own_kept i now new inside slice k lent found is same own =
    own_there i (λ x. record new { grant = x.grant }) (λ x. refl) now new inside slice k lent found is (ap (λ (g : Granted). record new { grant = g }) same) own

-- what a slice of all rows wrote is what stands in them
drop_all : (xs : List Instance) (k : ℕ) → length xs ≤ k → drop k xs ≡ []
drop_all [] zero h = refl
drop_all [] (suc k) h = refl
drop_all (x ∷ xs) zero h = absurd (omega (arith, h))
drop_all (x ∷ xs) (suc k) h = drop_all xs k (omega (arith, h))

take_joined : (xs : List Instance) (n : ℕ) → length xs ≤ n → take n (xs ++ []) ≡ xs
take_joined [] zero h = refl
take_joined [] (suc n) h = refl
take_joined (x ∷ xs) zero h = absurd (omega (arith, h))
take_joined (x ∷ xs) (suc n) h = ap (λ ys. x ∷ ys) (take_joined xs n (omega (arith, h)))

pub written_back : (new items : List Instance) (n : ℕ) → length items ≤ length new → length new ≤ n → take n (new ++ drop (length new) items) ≡ new
written_back new items n h k = ap (λ ys. take n (new ++ ys)) (drop_all items (length new) h) ∙ take_joined new n k
