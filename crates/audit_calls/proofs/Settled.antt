-- The table of calls by place: what its indexes tell, and what a changed row leaves of them.
use Rattle.std.proofs.Common.{◌≡◌, ℕ, zero, suc, ◌+◌, ◌<◌, ◌≤◌, Bool, true, false, cond, List, [], ◌∷◌, ◌++◌, length, map, filter, reverse, set, get_or, Option, Some, None, slice_get, OnOk, OnErr, refl, sym, ap, subst, ◌==◌, not, ◌∙◌, arith}
use Rattle.std.specs.Prelude.{Result, Ok, Err}
use Rattle.std.specs.List.{find}
use Rattle.std.proofs.lemmas.List.{length-map, length-reverse, reverse-reverse}
use Rattle.plain_facts.proofs.Options.{some_same, none_some}
use Rattle.row_lists.proofs.Reversed.{reverse_map, reverse_push, reverse_many, reverse_change}
use Rattle.locus_ids.specs.declared.ids.CallId.{CallId}
use Rattle.key_places.specs.declared.key.Key.{Key}
use Rattle.key_places.specs.Keys.{call_key, same_key}
use Rattle.key_places.specs.Places.{place_of}
use Rattle.key_places.proofs.Names.{call_names}
use Rattle.key_places.proofs.Rows.{place_finds, none_finds}
use Rattle.key_places.proofs.Changes.{changed_keys, none_changes}
use Rattle.promises.specs.Past.{CallSoFar}
use Rattle.promises.specs.After.{change, is_id}
use Rattle.audit_calls.specs.Rows.{replied}
use Rattle.audit_calls.specs.Uses.{use_key}
use Rattle.audit_calls.specs.Waiting.{is_call_at, waiting_from, waiting_row}
use Rattle.audit_calls.specs.Indexed.{Indexed, id_key}
use Rattle.audit_calls.specs.declared.waiting.WaitingRow.{WaitingRow}
use Rattle.audit_calls.proofs.Waits.{all_replied, ended_at, waits_push, waits_kept}

-- Reading.

-- a place within a list has a row
pub record RowAt (rows : List CallSoFar) (place : ℕ) : Type 0 where
  pub row : CallSoFar
  pub is : slice_get rows place ≡ Some row

pub row_there : (rows : List CallSoFar) (place : ℕ) → place < length rows → RowAt rows place
row_there [] place l = absurd (omega (arith, l))
row_there (x ∷ xs) zero l = record { row = x; is = refl }
row_there (x ∷ xs) (suc place) l = let s = row_there xs place (omega (arith, l)) in record { row = s.row; is = s.is }

pub read_at : (rows : List CallSoFar) (place : ℕ) (k : CallSoFar) → place < length rows → k ≡ get_or rows place k → Some k ≡ slice_get rows place
read_at [] place k l e = absurd (omega (arith, l))
read_at (x ∷ xs) zero k l e = ap Some e
read_at (x ∷ xs) (suc place) k l e = read_at xs place k (omega (arith, l)) e

got_at : (rows : List CallSoFar) (place : ℕ) (k : CallSoFar) → slice_get rows place ≡ Some k → get_or rows place k ≡ k
got_at [] place k e = refl
got_at (x ∷ xs) zero k e = some_same x k e
got_at (x ∷ xs) (suc place) k e = got_at xs place k e

pub within_at : (rows : List CallSoFar) (place : ℕ) (k : CallSoFar) → slice_get rows place ≡ Some k → place < length rows
within_at [] place k e = absurd (none_some k e)
within_at (x ∷ xs) zero k e = omega arith
within_at (x ∷ xs) (suc place) k e = omega (arith, within_at xs place k e)

-- what is found passes
find_passes : {X : Type 0} (p : X → Bool) (xs : List X) (x : X) → find p xs ≡ Some x → p x ≡ true
find_passes p [] x e = absurd (none_some x e)
find_passes {X} p (y ∷ ys) x e = at (p y) (find_passes p ys x) refl e
  where
    at : (b : Bool) → (find p ys ≡ Some x → p x ≡ true) → p y ≡ b → cond b (Some y) (find p ys) ≡ Some x → p x ≡ true
    at true rest t f = ap p (sym (some_same y x f)) ∙ t
    at false rest t f = rest f

-- By name.

names_tell : (id : CallId) (k : CallSoFar) → is_id id k ≡ same_key (id_key k) (call_key id)
names_tell id k = sym (call_names k.id id)

pub found_at : (rows : List CallSoFar) (ids : List Key) (id : CallId) (place : ℕ) → ids ≡ map id_key (reverse rows) → Some place ≡ place_of (call_key id) ids → find (is_id id) (reverse rows) ≡ slice_get rows place
found_at rows ids id place are at =
    place_finds id_key (call_key id) (is_id id) (names_tell id) (reverse rows) place (ap (place_of (call_key id)) (sym are) ∙ sym at)
    ∙ ap (λ xs. slice_get xs place) (reverse-reverse rows)

pub found_nowhere : (rows : List CallSoFar) (ids : List Key) (id : CallId) → ids ≡ map id_key (reverse rows) → None ≡ place_of (call_key id) ids → find (is_id id) (reverse rows) ≡ None
found_nowhere rows ids id are at = none_finds id_key (call_key id) (is_id id) (names_tell id) (reverse rows) (ap (place_of (call_key id)) (sym are) ∙ sym at)

pub unchanged : (f : CallSoFar → CallSoFar) (rows : List CallSoFar) (ids : List Key) (id : CallId) → ids ≡ map id_key (reverse rows) → None ≡ place_of (call_key id) ids → change (is_id id) f (reverse rows) ≡ reverse rows
unchanged f rows ids id are at = none_changes id_key (call_key id) (is_id id) (names_tell id) f (reverse rows) (ap (place_of (call_key id)) (sym are) ∙ sym at)

-- a change of the calls of a name is one of the row at its place, where no two calls have it
pub changed_at : (f : CallSoFar → CallSoFar) (rows : List CallSoFar) (ids : List Key) (id : CallId) (place : ℕ) (k : CallSoFar) → ids ≡ map id_key (reverse rows) → Some place ≡ place_of (call_key id) ids → length (filter (is_id id) (reverse rows)) ≤ 1 → slice_get rows place ≡ Some k → change (is_id id) f (reverse rows) ≡ reverse (set rows place (f k))
changed_at f rows ids id place k are at few e =
    let here = got_at rows place k e in
    let passes : is_id id k ≡ true = find_passes (is_id id) (reverse rows) k (found_at rows ids id place are at ∙ e) in
    let once : length (filter (is_id id) rows) ≤ 1 = (let m = reverse_many (is_id id) rows in omega (arith, m, few)) in
    reverse_change (is_id id) f rows k place (within_at rows place k e) (ap (is_id id) here ∙ passes) once ∙ ap (λ x. reverse (set rows place (f x))) here

-- What stays.

set_keys : (key : CallSoFar → Key) (rows : List CallSoFar) (place : ℕ) (k x : CallSoFar) → slice_get rows place ≡ Some k → key x ≡ key k → map key (set rows place x) ≡ map key rows
set_keys key [] place k x e s = refl
set_keys key (y ∷ ys) zero k x e s = ap (λ n. n ∷ map key ys) (s ∙ ap key (sym (some_same y k e)))
set_keys key (y ∷ ys) (suc place) k x e s = ap (λ ns. key y ∷ ns) (set_keys key ys place k x e s)

keys_stay : (key : CallSoFar → Key) (rows : List CallSoFar) (place : ℕ) (k x : CallSoFar) → slice_get rows place ≡ Some k → key x ≡ key k → map key (reverse rows) ≡ map key (reverse (set rows place x))
keys_stay key rows place k x e s = reverse_map key rows ∙ (ap reverse (sym (set_keys key rows place k x e s)) ∙ sym (reverse_map key (set rows place x)))

-- a row of the same call, which waits as before
pub index_stays : (rows rows2 : List CallSoFar) (ids uses : List Key) (waiting : List WaitingRow) (place : ℕ) (k x : CallSoFar) → Indexed rows ids uses waiting → slice_get rows place ≡ Some k → rows2 ≡ set rows place x → id_key x ≡ id_key k → use_key x ≡ use_key k → x.waits ≡ k.waits → ((n : ℕ) → waiting_row n x ≡ waiting_row n k) → Indexed rows2 ids uses waiting
index_stays rows rows2 ids uses waiting place k x h e new i u w r = rw new (record {
  ids_are = h.ids_are ∙ keys_stay id_key rows place k x e i;
  uses_are = h.uses_are ∙ keys_stay use_key rows place k x e u;
  waiting_are = h.waiting_are ∙ sym (waits_kept 0 rows place k x e w r);
})

-- a row of the same call, which waits no more
pub index_ends : (rows rows2 : List CallSoFar) (ids uses : List Key) (waiting waiting2 : List WaitingRow) (place : ℕ) (k : CallSoFar) → Indexed rows ids uses waiting → slice_get rows place ≡ Some k → rows2 ≡ set rows place (replied k) → waiting2 ≡ filter (λ (w : WaitingRow). not (w.place == place)) waiting → Indexed rows2 ids uses waiting2
index_ends rows rows2 ids uses waiting waiting2 place k h e new left = record {
  ids_are = h.ids_are ∙ (keys_stay id_key rows place k (replied k) e refl ∙ ap (λ xs. map id_key (reverse xs)) (sym new));
  uses_are = h.uses_are ∙ (keys_stay use_key rows place k (replied k) e refl ∙ ap (λ xs. map use_key (reverse xs)) (sym new));
  waiting_are = ended_at rows rows2 waiting waiting2 place k h.waiting_are new left;
}

-- none of a site's calls waits any more
pub index_stops : (site : ℕ) (rows rows2 : List CallSoFar) (ids uses : List Key) (waiting waiting2 : List WaitingRow) → Indexed rows ids uses waiting → rows2 ≡ all_replied site rows → waiting2 ≡ waiting_from 0 rows2 → Indexed rows2 ids uses waiting2
index_stops site rows rows2 ids uses waiting waiting2 h new stand = record {
  ids_are = h.ids_are ∙ keys id_key (λ k. refl);
  uses_are = h.uses_are ∙ keys use_key (λ k. refl);
  waiting_are = stand;
}
  where
    keys : (key : CallSoFar → Key) → ((k : CallSoFar) → key (replied k) ≡ key k) → map key (reverse rows) ≡ map key (reverse rows2)
    keys key stay = reverse_map key rows ∙ (ap reverse (sym (changed_keys key (is_call_at site) replied stay rows)) ∙ (sym (reverse_map key (all_replied site rows)) ∙ ap (λ xs. map key (reverse xs)) (sym new)))

pub stopped_shown : (site : ℕ) (rows rows2 now : List CallSoFar) → reverse rows ≡ now → rows2 ≡ all_replied site rows → reverse rows2 ≡ change (is_call_at site) replied now
stopped_shown site rows rows2 now view new = ap reverse new ∙ (sym (reverse_map (λ k. cond (is_call_at site k) (replied k) k) rows) ∙ ap (change (is_call_at site) replied) view)

-- one more call
pub index_push : (rows rows2 : List CallSoFar) (ids ids2 uses uses2 : List Key) (waiting waiting2 : List WaitingRow) (k : CallSoFar) → Indexed rows ids uses waiting → k.waits ≡ true → rows2 ≡ rows ++ k ∷ [] → ids2 ≡ id_key k ∷ ids → uses2 ≡ use_key k ∷ uses → waiting2 ≡ waiting ++ waiting_row (length rows) k ∷ [] → Indexed rows2 ids2 uses2 waiting2
index_push rows rows2 ids ids2 uses uses2 waiting waiting2 k h w a b c d = record {
  ids_are = b ∙ (ap (λ ks. id_key k ∷ ks) h.ids_are ∙ ap (map id_key) (sym (reverse_push rows k) ∙ ap reverse (sym a)));
  uses_are = c ∙ (ap (λ ks. use_key k ∷ ks) h.uses_are ∙ ap (map use_key) (sym (reverse_push rows k) ∙ ap reverse (sym a)));
  waiting_are = d ∙ (ap (λ ws. ws ++ waiting_row (length rows) k ∷ []) h.waiting_are ∙ (ap (λ n. waiting_from 0 rows ++ waiting_row n k ∷ []) (first (length rows)) ∙ (sym (waits_push 0 rows k w) ∙ ap (waiting_from 0) (sym a))));
}
  where
    first : (n : ℕ) → n ≡ 0 + n
    first n = omega arith

-- nothing is left
pub index_empty : (rows : List CallSoFar) (ids uses : List Key) (waiting : List WaitingRow) → rows ≡ [] → ids ≡ [] → uses ≡ [] → waiting ≡ [] → Indexed rows ids uses waiting
index_empty rows ids uses waiting a b c d = rw (a, b, c, d) (record { ids_are = refl; uses_are = refl; waiting_are = refl })

-- By an answer.

pub by_answer : {A E P Q R : Type 0} (r : Result A E) → OnOk r P → OnErr r Q → (P → R) → (Q → R) → R
by_answer (Ok a) p q f g = f p
by_answer (Err a) p q f g = g q

pub on_ok : {A E P Q : Type 0} (r : Result A E) → OnOk r P → (P → Q) → OnOk r Q
on_ok (Ok a) p f = f p
on_ok (Err a) p f = tt

-- A change by name, as it is shown.

-- the index was asked for this name
pub asked_for : (ids : List Key) (id : CallId) (key : Key) (o : Option ℕ) → o ≡ place_of key ids → key ≡ call_key id → o ≡ place_of (call_key id) ids
asked_for ids id key o e k = e ∙ ap (λ q. place_of q ids) k

pub row_within : (rows : List CallSoFar) (ids : List Key) (place : ℕ) → ids ≡ map id_key (reverse rows) → place < length ids → place < length rows
row_within rows ids place are l = omega (arith, l, ap length are ∙ (length-map (reverse rows) id_key ∙ length-reverse rows))

pub use_within : (rows : List CallSoFar) (uses : List Key) (place : ℕ) → uses ≡ map use_key (reverse rows) → place < length uses → place < length rows
use_within rows uses place are l = omega (arith, l, ap length are ∙ (length-map (reverse rows) use_key ∙ length-reverse rows))

pub shown_unchanged : (f : CallSoFar → CallSoFar) (rows now : List CallSoFar) (ids : List Key) (id : CallId) → reverse rows ≡ now → ids ≡ map id_key (reverse rows) → None ≡ place_of (call_key id) ids → now ≡ change (is_id id) f now
shown_unchanged f rows now ids id view are at = sym view ∙ (sym (unchanged f rows ids id are at) ∙ ap (change (is_id id) f) view)

pub shown_changed : (f : CallSoFar → CallSoFar) (rows rows2 now : List CallSoFar) (ids : List Key) (id : CallId) (place : ℕ) (k : CallSoFar) → reverse rows ≡ now → ids ≡ map id_key (reverse rows) → Some place ≡ place_of (call_key id) ids → length (filter (is_id id) now) ≤ 1 → slice_get rows place ≡ Some k → rows2 ≡ set rows place (f k) → reverse rows2 ≡ change (is_id id) f now
shown_changed f rows rows2 now ids id place k view are at few e new =
    ap reverse new ∙ (sym (changed_at f rows ids id place k are at (subst (λ xs. length (filter (is_id id) xs) ≤ 1) (sym view) few) e) ∙ ap (change (is_id id) f) view)
