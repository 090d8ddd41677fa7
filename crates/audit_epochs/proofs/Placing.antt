-- The epoch at the place of its name is found and changed, and no other.
use Rattle.std.proofs.Common.{◌≡◌, ℕ, zero, suc, ◌<◌, ◌≤◌, Bool, true, false, ◌&&◌, ◌||◌, cond, List, [], ◌∷◌, ◌++◌, length, filter, reverse, set, get_or, slice_get, Option, Some, None, Bor, IfSome, refl, sym, ap, ◌∙◌, subst, arith}
use Rattle.std.specs.List.{find, list_any}
use Rattle.std.specs.Prelude.{nat_lt}
use Rattle.std.proofs.lemmas.Bool.{lt-ltb}
use Rattle.std.specs.Option.{option_copied, is_some}
use Rattle.std.proofs.lemmas.List.{length-map, length-reverse, reverse-reverse}
use Rattle.locus_ids.specs.declared.ids.EpochId.{EpochId}
use Rattle.locus_ids.specs.declared.ids.Serial.{Serial}
use Rattle.trace_book.specs.Same.{same_epoch}
use Rattle.key_places.specs.declared.key.Key.{Key}
use Rattle.key_places.specs.Keys.{epoch_key, same_key}
use Rattle.key_places.specs.Places.{place_of, AllApart}
use Rattle.key_places.proofs.Names.{epoch_names}
use Rattle.key_places.proofs.Rows.{place_within, place_finds, none_finds, place_any}
use Rattle.key_places.proofs.Changes.{none_changes, place_changes}
use Rattle.promises.specs.Past.{Epoch, is_named}
use Rattle.promises.specs.After.{change, is_epoch}
use Rattle.audit_copies.proofs.of_past_laws.Names.{epoch_eq, epoch_turned, false_true, none_some, some_same}
use Rattle.row_lists.proofs.ByPlace.{none_kept, once_more}
use Rattle.row_lists.proofs.Reversed.{reverse_map, reverse_push}
use Rattle.audit_epochs.specs.Changes.{is_home}
use Rattle.audit_epochs.specs.Places.{keys_of, place_in, place_home, has_open}
use Rattle.audit_epochs.proofs.Lists.{change_never}

abbrev key : Epoch → Key
key t = epoch_key t.id

-- how a test tells the name of an epoch
abbrev Tells : (Epoch → Bool) → Key → Type 0
Tells p k = (t : Epoch) → p t ≡ same_key (key t) k

by_name : (e : EpochId) → Tells (is_epoch e) (epoch_key e)
by_name e t = sym (epoch_names t.id e)

by_home : (e : EpochId) → Tells (is_home (Some e)) (epoch_key e)
by_home e t = epoch_turned e t.id ∙ sym (epoch_names t.id e)

get_some : (xs : List Epoch) (i : ℕ) (d : Epoch) → i < length xs → slice_get xs i ≡ Some (get_or xs i d)
get_some [] i d l = absurd (omega (arith, l))
get_some (x ∷ xs) zero d l = refl
get_some (x ∷ xs) (suc i) d l = get_some xs i d (omega (arith, l))

below : (a b c : ℕ) → a < b → b ≡ c → a < c
below a b c h e = omega (arith, h, e)

within_rows : (k : Key) (table rows : List Epoch) (i : ℕ) → reverse rows ≡ table → Some i ≡ place_of k (keys_of table) → i < length rows
within_rows k table rows i view found =
    below i (length (keys_of table)) (length rows) (place_within k (keys_of table) i (sym found))
    (length-map table key ∙ (sym (ap length view) ∙ length-reverse rows))

-- a place is one of the rows
pub in_rows : (e : EpochId) (table rows : List Epoch) (i : ℕ) → reverse rows ≡ table → Some i ≡ place_in e table → i < length rows
in_rows e table rows i view found = within_rows (epoch_key e) table rows i view found

pub home_in_rows : (home : Option EpochId) (table rows : List Epoch) (i : ℕ) → reverse rows ≡ table → Some i ≡ place_home home table → i < length rows
home_in_rows None table rows i view found = none_some i (sym found)
home_in_rows (Some e) table rows i view found = in_rows e table rows i view found

-- what stands there

stands : (k : Key) (table rows : List Epoch) (i : ℕ) (d : Epoch) → reverse rows ≡ table → Some i ≡ place_of k (keys_of table) → slice_get (reverse table) i ≡ Some (get_or rows i d)
stands k table rows i d view found =
    ap (λ (ys : List Epoch). slice_get (reverse ys) i) (sym view) ∙ (ap (λ (ys : List Epoch). slice_get ys i) (reverse-reverse rows) ∙ get_some rows i d (within_rows k table rows i view found))

found_by : (p : Epoch → Bool) (k : Key) → Tells p k → (table rows : List Epoch) (i : ℕ) (d : Epoch) → reverse rows ≡ table → Some i ≡ place_of k (keys_of table) → find p table ≡ Some (get_or rows i d)
found_by p k tells table rows i d view found = place_finds key k p tells table i (sym found) ∙ stands k table rows i d view found

pub found_at : (e : EpochId) (table rows : List Epoch) (i : ℕ) (now : Epoch) → reverse rows ≡ table → Some i ≡ place_in e table → now ≡ get_or rows i now → find (is_epoch e) table ≡ Some now
found_at e table rows i now view found is = found_by (is_epoch e) (epoch_key e) (by_name e) table rows i now view found ∙ ap (λ t. Some t) (sym is)

pub found_nowhere : (e : EpochId) (table : List Epoch) → None ≡ place_in e table → find (is_epoch e) table ≡ None
found_nowhere e table lost = none_finds key (epoch_key e) (is_epoch e) (by_name e) table (sym lost)

pub find_get : (e : EpochId) (table rows : List Epoch) (i : ℕ) → reverse rows ≡ table → Some i ≡ place_in e table → slice_get rows i ≡ find (is_epoch e) table
find_get e table rows i view found =
    sym (place_finds key (epoch_key e) (is_epoch e) (by_name e) table i (sym found)
    ∙ (ap (λ (ys : List Epoch). slice_get (reverse ys) i) (sym view) ∙ ap (λ (ys : List Epoch). slice_get ys i) (reverse-reverse rows)))

pub any_at : (e : EpochId) (table : List Epoch) → list_any (is_epoch e) table ≡ is_some (place_in e table)
any_at e table = place_any key (epoch_key e) (is_epoch e) (by_name e) table

-- the home of a site is found by its name
pub home_found : (e : EpochId) (table : List Epoch) → find (is_epoch e) table ≡ find (is_home (Some e)) table
home_found e [] = refl
home_found e (t ∷ ts) = ap (λ b. cond b (Some t) (find (is_epoch e) ts)) (epoch_turned t.id e) ∙ ap (λ o. cond (same_epoch e t.id) (Some t) o) (home_found e ts)

pub no_home : (table : List Epoch) → find (is_home None) table ≡ None
no_home [] = refl
no_home (t ∷ ts) = no_home ts

-- What is changed.

told_changed : (p : Epoch → Bool) (k : Key) → Tells p k → (f : Epoch → Epoch) (table rows : List Epoch) (i : ℕ) (now new : Epoch) → reverse rows ≡ table → AllApart (keys_of table)
    → Some i ≡ place_of k (keys_of table) → now ≡ get_or rows i now → new ≡ f now → reverse (set rows i new) ≡ change p f table
told_changed p k tells f table rows i now new view apart found is becomes =
    let at : slice_get (reverse table) i ≡ Some now = stands k table rows i now view found ∙ ap (λ (t : Epoch). Some t) (sym is) in
    ap (λ (t : Epoch). reverse (set rows i t)) becomes
    ∙ (ap (λ (ys : List Epoch). reverse (set ys i (f now))) (sym (reverse-reverse rows) ∙ ap reverse view)
    ∙ sym (place_changes key k p tells f table i now apart (sym found) at))

pub apart_in : (keys : List Key) (table rows : List Epoch) → reverse rows ≡ table → keys ≡ keys_of (reverse rows) → AllApart keys → AllApart (keys_of table)
apart_in keys table rows view e apart = subst AllApart (e ∙ ap keys_of view) apart

pub changed_there : (e : EpochId) (f : Epoch → Epoch) (table rows : List Epoch) (keys : List Key) (i : ℕ) (now new : Epoch) → reverse rows ≡ table → keys ≡ keys_of (reverse rows) → AllApart keys
    → Some i ≡ place_in e table → now ≡ get_or rows i now → new ≡ f now → reverse (set rows i new) ≡ change (is_epoch e) f table
changed_there e f table rows keys i now new view told apart found is becomes =
    told_changed (is_epoch e) (epoch_key e) (by_name e) f table rows i now new view (apart_in keys table rows view told apart) found is becomes

pub changed_nowhere : (e : EpochId) (f : Epoch → Epoch) (table : List Epoch) → None ≡ place_in e table → table ≡ change (is_epoch e) f table
changed_nowhere e f table lost = sym (none_changes key (epoch_key e) (is_epoch e) (by_name e) f table (sym lost))

pub home_changed : (home : Option EpochId) (f : Epoch → Epoch) (table rows : List Epoch) (keys : List Key) (i : ℕ) (now new : Epoch) → reverse rows ≡ table → keys ≡ keys_of (reverse rows) → AllApart keys
    → Some i ≡ place_home home table → now ≡ get_or rows i now → new ≡ f now → reverse (set rows i new) ≡ change (is_home home) f table
home_changed None f table rows keys i now new view told apart found is becomes = none_some i (sym found)
home_changed (Some e) f table rows keys i now new view told apart found is becomes =
    told_changed (is_home (Some e)) (epoch_key e) (by_home e) f table rows i now new view (apart_in keys table rows view told apart) found is becomes

pub home_unchanged : (home : Option EpochId) (f : Epoch → Epoch) (table : List Epoch) → None ≡ place_home home table → table ≡ change (is_home home) f table
home_unchanged None f table lost = sym (change_never (is_home None) f (λ t. refl) table)
home_unchanged (Some e) f table lost = sym (none_changes key (epoch_key e) (is_home (Some e)) (by_home e) f table (sym lost))

-- the names stay where they are
names_stay : (rows : List Epoch) (i : ℕ) (now new : Epoch) → now ≡ get_or rows i now → new.id ≡ now.id → keys_of (set rows i new) ≡ keys_of rows
names_stay [] i now new is same = refl
names_stay (t ∷ rows) zero now new is same = ap (λ e. epoch_key e ∷ keys_of rows) (same ∙ ap (λ (u : Epoch). u.id) is)
names_stay (t ∷ rows) (suc i) now new is same = ap (λ ks. key t ∷ ks) (names_stay rows i now new is same)

pub keys_stay : (keys : List Key) (rows : List Epoch) (i : ℕ) (now new : Epoch) → keys ≡ keys_of (reverse rows) → now ≡ get_or rows i now → new.id ≡ now.id → keys ≡ keys_of (reverse (set rows i new))
keys_stay keys rows i now new told is same =
    told ∙ (reverse_map key rows ∙ (ap reverse (sym (names_stay rows i now new is same)) ∙ sym (reverse_map key (set rows i new))))

-- An epoch without an open instance of a name has none.
pub none_open : (e : EpochId) (i : Serial) (table : List Epoch) (now : Epoch) → find (is_epoch e) table ≡ Some now → has_open e i table ≡ false → list_any (is_named i) now.opened ≡ false
none_open e i [] now found none = none_some now found
none_open e i (t ∷ ts) now found none = at (is_epoch e t) found none (none_open e i ts now)
  where
    at : (b : Bool) → cond b (Some t) (find (is_epoch e) ts) ≡ Some now → ((b && list_any (is_named i) t.opened) || has_open e i ts) ≡ false
        → (find (is_epoch e) ts ≡ Some now → has_open e i ts ≡ false → list_any (is_named i) now.opened ≡ false) → list_any (is_named i) now.opened ≡ false
    at true g h later = ap (λ (u : Epoch). list_any (is_named i) u.opened) (sym (some_same t now g)) ∙ neither (list_any (is_named i) t.opened) h
      where
        neither : (x : Bool) → (x || has_open e i ts) ≡ false → x ≡ false
        neither true k = false_true (sym k)
        neither false k = refl
    at false g h later = later g h

-- The epoch is there from its first join on.

pub formed_before : (e : EpochId) (table : List Epoch) (new : Epoch) → is_some (place_in e table) ≡ true → table ≡ cond (list_any (is_epoch e) table) table (new ∷ table)
formed_before e table new h = ap (λ b. cond b table (new ∷ table)) (sym (any_at e table ∙ h))

pub formed_now : (e : EpochId) (table rows after : List Epoch) (new : Epoch) → reverse rows ≡ table → is_some (place_in e table) ≡ false → after ≡ rows ++ new ∷ []
    → reverse after ≡ cond (list_any (is_epoch e) table) table (new ∷ table)
formed_now e table rows after new view h pushed =
    ap reverse pushed ∙ (reverse_push rows new ∙ (ap (λ ts. new ∷ ts) view ∙ ap (λ b. cond b table (new ∷ table)) (sym (any_at e table ∙ h))))

-- The same of what a slice of the rows has at the place.
pub found_get : (e : EpochId) (table rows slice : List Epoch) (i : ℕ) (o : Option (Bor Epoch)) → reverse rows ≡ table → slice ≡ rows → Some i ≡ place_in e table
    → is_some o ≡ nat_lt i (length slice) → IfSome o (λ (x : Bor Epoch). x.now ≡ get_or slice i x.now) → option_copied o ≡ find (is_epoch e) table
found_get e table rows slice i None view lent found has is =
    let l : i < length rows = in_rows e table rows i view found in
    false_true (has ∙ (ap (λ (ys : List Epoch). nat_lt i (length ys)) lent ∙ lt-ltb i (length rows) l))
found_get e table rows slice i (Some x) view lent found has is =
    sym (found_at e table rows i x.now view found (is ∙ ap (λ (ys : List Epoch). get_or ys i x.now) lent))

pub home_nowhere : (home : Option EpochId) (table : List Epoch) → home ≡ None → find (is_home home) table ≡ None
home_nowhere home table e = ap (λ (h : Option EpochId). find (is_home h) table) e ∙ no_home table

pub home_there : (home : Option EpochId) (e : EpochId) (table : List Epoch) → home ≡ Some e → find (is_epoch e) table ≡ find (is_home home) table
home_there home e table same = home_found e table ∙ ap (λ (h : Option EpochId). find (is_home h) table) (sym same)

-- Each name stands once.

pub one_of : (e : EpochId) (ts : List Epoch) → AllApart (keys_of ts) → length (filter (is_epoch e) ts) ≤ 1
one_of e [] apart = omega arith
one_of e (t ∷ ts) apart = at (is_epoch e t) refl (one_of e ts apart.1)
  where
    at : (b : Bool) → is_epoch e t ≡ b → length (filter (is_epoch e) ts) ≤ 1 → length (filter (is_epoch e) (t ∷ ts)) ≤ 1
    at true h later = once_more (is_epoch e) t ts (ap (λ (i : EpochId). list_any (is_epoch i) ts) (sym (epoch_eq t.id e h)) ∙ (any_at t.id ts ∙ ap is_some apart.0))
    at false h later = subst (λ (b : Bool). length (cond b (t ∷ filter (is_epoch e) ts) (filter (is_epoch e) ts)) ≤ 1) (sym h) later

pub one_lost : (e : EpochId) (ts : List Epoch) → None ≡ place_in e ts → length (filter (is_epoch e) ts) ≤ 1
one_lost e ts lost = subst (λ (ys : List Epoch). length ys ≤ 1) (sym (none_kept (is_epoch e) ts (any_at e ts ∙ ap is_some (sym lost)))) (omega arith)
