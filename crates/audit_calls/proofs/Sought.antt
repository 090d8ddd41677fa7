-- A call is found by its use of an instance, or there is none.
use Rattle.std.proofs.Common.{◌≡◌, ℕ, zero, suc, ◌+◌, ◌*◌, ◌%◌, ◌<◌, ◌==◌, Bool, true, false, not, ◌&&◌, cond, List, [], ◌∷◌, ◌++◌, length, map, reverse, take, get_or, Option, Some, None, slice_get, refl, sym, ap, ◌∙◌, arith}
use Rattle.std.specs.List.{find}
use Rattle.std.proofs.lemmas.List.{reverse-reverse}
use Rattle.plain_facts.proofs.Tests.{both_true, and_true}
use Rattle.plain_facts.proofs.Numbers.{equal, equal_test}
use Rattle.plain_facts.proofs.Options.{some_same, some_none, none_some}
use Rattle.row_lists.proofs.Reversed.{reverse_push}
use Rattle.locus_ids.specs.declared.ids.EpochId.{EpochId}
use Rattle.locus_ids.specs.declared.ids.Serial.{Serial}
use Rattle.trace_book.specs.Same.{same_epoch, same_serial}
use Rattle.trace_book.specs.declared.descriptor.Beginning.{Beginning}
use Rattle.trace_book.specs.declared.descriptor.Beginning.TheVariants.{Uses}
use Rattle.key_places.specs.declared.key.Key.{Key}
use Rattle.key_places.specs.Keys.{same_key}
use Rattle.key_places.specs.Places.{place_of}
use Rattle.key_places.proofs.Rows.{place_finds, none_finds}
use Rattle.promises.specs.Past.{CallSoFar, is_close, is_on}
use Rattle.audit_calls.specs.Uses.{closer_key, has_turn, is_use, key_of_use, sought_key, turn_or_none, turn_span, use_key, user_key}
use Rattle.audit_calls.specs.declared.uses.Use.{Use}

-- a narrower test
pub find_narrow : {X : Type 0} (p q : X → Bool) → ((x : X) → p x ≡ true → q x ≡ true) → (xs : List X) (x : X) → find q xs ≡ Some x → p x ≡ true → find p xs ≡ Some x
find_narrow p q below [] x e t = absurd (none_some x e)
find_narrow {X} p q below (y ∷ ys) x e t = at (q y) (λ g. find_narrow p q below ys x g t) refl e
  where
    other : (b : Bool) → p y ≡ b → q y ≡ false → find p ys ≡ Some x → cond b (Some y) (find p ys) ≡ Some x
    other true s f g = absurd (false_true (sym f ∙ below y s))
      where
        false_true : false ≡ true → ⊥
        false_true c = cc
    other false s f g = g

    at : (b : Bool) → (find q ys ≡ Some x → find p ys ≡ Some x) → q y ≡ b → cond b (Some y) (find q ys) ≡ Some x → find p (y ∷ ys) ≡ Some x
    at true rest f g = let s : y ≡ x = some_same y x g in ap (λ b. cond b (Some y) (find p ys)) (ap p s ∙ t) ∙ ap Some s
    at false rest f g = other (p y) refl f (rest g)

pub none_narrow : {X : Type 0} (p q : X → Bool) → ((x : X) → p x ≡ true → q x ≡ true) → (xs : List X) → find q xs ≡ None → find p xs ≡ None
none_narrow p q below [] e = refl
none_narrow {X} p q below (y ∷ ys) e = at (q y) (none_narrow p q below ys) refl e
  where
    other : (b : Bool) → p y ≡ b → q y ≡ false → find p ys ≡ None → cond b (Some y) (find p ys) ≡ None
    other true s f g = absurd (false_true (sym f ∙ below y s))
      where
        false_true : false ≡ true → ⊥
        false_true c = cc
    other false s f g = g

    at : (b : Bool) → (find q ys ≡ None → find p ys ≡ None) → q y ≡ b → cond b (Some y) (find q ys) ≡ None → find p (y ∷ ys) ≡ None
    at true rest f g = absurd (some_none y g)
    at false rest f g = other (p y) refl f (rest g)

-- a call of this use has its key

abbrev turns : Bool → Option ℕ → ℕ → Bool
turns b None n = b
turns b (Some m) n = not b && (n == m)

turn_told : (t : Option ℕ) (k : CallSoFar) → has_turn t k ≡ turns (is_close k.words) t k.turn
turn_told None k = refl
turn_told (Some m) k = refl

key_told : (b : Bool) (t : Option ℕ) (n : ℕ) (e f : EpochId) (i j : Serial) → (same_epoch e f && same_serial i j) ≡ true → turns b t n ≡ true → same_key (cond b (closer_key e i) (user_key e i n)) (user_key f j (turn_or_none t)) ≡ true
key_told b t n e f i j same turn =
    let parts = both_true (same_epoch e f) (same_serial i j) same in
    let epochs = both_true ((e.number == f.number) && (e.site == f.site)) (e.boot == f.boot) parts.0 in
    let numbers = both_true (e.number == f.number) (e.site == f.site) epochs.0 in
    let serials = both_true (i.us == j.us) (i.serial == j.serial) parts.1 in
    at (with_turn numbers.0 numbers.1 epochs.1 serials.0 serials.1) b t turn
  where
    last_same : i.us ≡ j.us → e.site ≡ f.site → (m l : ℕ) → m ≡ l → i.us + 256 * e.site + turn_span * (m % turn_span) ≡ j.us + 256 * f.site + turn_span * (l % turn_span)
    last_same p q m l h =
        ap (λ a. a + 256 * e.site + turn_span * (m % turn_span)) p
        ∙ (ap (λ a. j.us + 256 * a + turn_span * (m % turn_span)) q ∙ ap (λ a. j.us + 256 * f.site + turn_span * (a % turn_span)) h)

    with_turn : (e.number == f.number) ≡ true → (e.site == f.site) ≡ true → (e.boot == f.boot) ≡ true → (i.us == j.us) ≡ true → (i.serial == j.serial) ≡ true → (m l : ℕ) → (m == l) ≡ true → same_key (user_key e i m) (user_key f j l) ≡ true
    with_turn p s v q r m l h =
        and_true (e.number == f.number) _ p (and_true (e.boot == f.boot) _ v (and_true (i.serial == j.serial) _ r
        (equal_test _ _ (last_same (equal i.us j.us q) (equal e.site f.site s) m l (equal m l h)))))

    at : ((m l : ℕ) → (m == l) ≡ true → same_key (user_key e i m) (user_key f j l) ≡ true) → (c : Bool) (u : Option ℕ) → turns c u n ≡ true → same_key (cond c (closer_key e i) (user_key e i n)) (user_key f j (turn_or_none u)) ≡ true
    at alike true None h = alike 0 0 refl
    at alike false None h = absurd (cc)
    at alike true (Some m) h = absurd (cc)
    at alike false (Some m) h = alike n m h

pub use_told : (u : Use) (k : CallSoFar) → is_use u k ≡ true → same_key (use_key k) (sought_key u) ≡ true
use_told u k e = at k.begins (both_true (is_on k.begins u.epoch u.inst) (has_turn u.turn k) e)
  where
    at : (b : Beginning) → (is_on b u.epoch u.inst ≡ true) × (has_turn u.turn k ≡ true) → same_key (key_of_use b k.words k.turn) (sought_key u) ≡ true
    at (Uses f j) h = key_told (is_close k.words) u.turn k.turn f u.epoch j u.inst h.0 (sym (turn_told u.turn k) ∙ h.1)
    at _ h = absurd (no h.0)
      where
        no : false ≡ true → ⊥
        no c = cc

pub used_at : (rows : List CallSoFar) (uses : List Key) (u : Use) (place : ℕ) (k : CallSoFar) → uses ≡ map use_key (reverse rows) → Some place ≡ place_of (sought_key u) uses → Some k ≡ slice_get rows place → is_use u k ≡ true → Some k ≡ find (is_use u) (reverse rows)
used_at rows uses u place k are at e t =
    let found = place_finds use_key (sought_key u) (λ (x : CallSoFar). same_key (use_key x) (sought_key u)) (λ x. refl) (reverse rows) place (ap (place_of (sought_key u)) (sym are) ∙ sym at) in
    sym (find_narrow (is_use u) (λ (x : CallSoFar). same_key (use_key x) (sought_key u)) (use_told u) (reverse rows) k (found ∙ (ap (λ xs. slice_get xs place) (reverse-reverse rows) ∙ sym e)) t)

pub used_nowhere : (rows : List CallSoFar) (uses : List Key) (u : Use) → uses ≡ map use_key (reverse rows) → None ≡ place_of (sought_key u) uses → None ≡ find (is_use u) (reverse rows)
used_nowhere rows uses u are at =
    let none = none_finds use_key (sought_key u) (λ (x : CallSoFar). same_key (use_key x) (sought_key u)) (λ x. refl) (reverse rows) (ap (place_of (sought_key u)) (sym are) ∙ sym at) in
    sym (none_narrow (is_use u) (λ (x : CallSoFar). same_key (use_key x) (sought_key u)) (use_told u) (reverse rows) none)

-- The newest of the first rows.

pub newest_here : (p : CallSoFar → Bool) (rows : List CallSoFar) (left : ℕ) (k : CallSoFar) → left < length rows → k ≡ get_or rows left k → find p (reverse (take (left + 1) rows)) ≡ cond (p k) (Some k) (find p (reverse (take left rows)))
newest_here p rows left k l e = ap (λ m. find p (reverse (take m rows))) (next left) ∙ (ap (λ xs. find p (reverse xs)) (one_more rows left k l e) ∙ ap (find p) (reverse_push (take left rows) k))
  where
    next : (n : ℕ) → n + 1 ≡ suc n
    next n = omega arith

    one_more : (xs : List CallSoFar) (n : ℕ) (x : CallSoFar) → n < length xs → x ≡ get_or xs n x → take (suc n) xs ≡ take n xs ++ x ∷ []
    one_more [] n x h f = absurd (omega (arith, h))
    one_more (y ∷ ys) zero x h f = ap (λ z. z ∷ []) (sym f)
    one_more (y ∷ ys) (suc n) x h f = ap (λ zs. y ∷ zs) (one_more ys n x (omega (arith, h)) f)
