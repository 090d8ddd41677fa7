-- What a component finds in a directory is the live entry of its plain name and the number that is found.
use Rattle.std.proofs.Common.{◌≡◌, ℕ, ◌==◌, Bool, true, false, not, ◌&&◌, cond, nat_le, nat_lt, List, [], ◌∷◌, ◌++◌, length, filter, Option, Some, None, refl, sym, ◌∙◌, ap, subst, inl, inr, ◌⊎◌}
use Rattle.std.proofs.lemmas.Bool.{false≢true}
use Rattle.std.proofs.lemmas.Slice.Eq.{bytes_eq-Decides}
use Rattle.std.proofs.lemmas.Cmp.{tied_itself}
use Rattle.std.specs.Prelude.{codes}
use Rattle.std.specs.Fmt.{decimal}
use Rattle.std.specs.List.{list_all, AllByRecursion}
use Rattle.std.specs.Str.{bytes_eq}
use Rattle.std.specs.declared.cmp.Ordering.TheVariants.{Less, Equal}
use Rattle.role_steps.proofs.of_plain_facts.Numbers.{equal, equal_self}
use Rattle.role_steps.proofs.of_plain_facts.Tests.{or_either}
use Rattle.locus_ids.specs.declared.ids.Kind.{Kind}
use Rattle.trace_book.specs.Names.{is_name, is_name_byte, plain_name}
use Rattle.dir_format.specs.declared.entry.Entry.{Entry}
use Rattle.dir_format.specs.declared.looking.LookResult.TheVariants as look
use Rattle.dir_format.specs.Contents.{is_dir}
use Rattle.dir_format.specs.Effects.{DirEffect, becomes, is_spent, live_one, remove_effect, remove_entry, removed}
use Rattle.dir_format.specs.Entries.{Ascends, IsDir, IsEntry, IsVector, entry_cmp, is_live, is_pair, pair_in, with_entry}
use Rattle.dir_format.specs.Lookups.{is_meant, look_among, lookup, numbered_name}
use Rattle.dir_format.proofs.FirstOf.{find_has, kind_of_found}
use Rattle.dir_format.proofs.Orders.{entry_total}
use Rattle.dir_format.proofs.Tests.{both}
use Rattle.rest_laws.proofs.Fits.CalmAskingDirectories.{remove_passes}

-- the entry of the pair is there, and live
pub record IsLivePair (name : List ℕ) (ino : ℕ) (ds : List Entry) : Type 0 where
  pub entry : Entry
  pub found : pair_in name ino ds ≡ Some entry
  pub live : is_live entry ≡ true

-- ---- plain names ----

is_mark : (c : ℕ) → is_name_byte c ≡ true → (c == 64) ≡ false
is_mark c h = over (c == 64) refl
  where
    over : (b : Bool) → (c == 64) ≡ b → b ≡ false
    over false e = refl
    over true e = absurd (false≢true (sym (ap not e) ∙ (both _ (not (c == 64)) h).1))

plain_before : (name rest : List ℕ) → list_all is_name_byte name ≡ true → plain_name (name ++ rest) ≡ name ++ plain_name rest
plain_before [] rest h = refl
plain_before (c ∷ cs) rest h = (let two = both (is_name_byte c) (list_all is_name_byte cs) h in
    ap (λ (b : Bool). cond b [] (c ∷ plain_name (cs ++ rest))) (is_mark c two.0) ∙ ap (λ (xs : List ℕ). c ∷ xs) (plain_before cs rest two.1))

nothing_after : (xs : List ℕ) → xs ++ [] ≡ xs
nothing_after [] = refl
nothing_after (x ∷ xs) = ap (λ (ys : List ℕ). x ∷ ys) (nothing_after xs)

name_bytes : (name : List ℕ) → is_name name ≡ true → list_all is_name_byte name ≡ true
name_bytes name h =
    let a = both (nat_lt 0 (length name)) (nat_le (length name) 60 && (not (bytes_eq name (codes ".")) && (not (bytes_eq name (codes "..")) && list_all is_name_byte name))) h in
    let b = both (nat_le (length name) 60) (not (bytes_eq name (codes ".")) && (not (bytes_eq name (codes "..")) && list_all is_name_byte name)) a.1 in
    let d = both (not (bytes_eq name (codes "."))) (not (bytes_eq name (codes "..")) && list_all is_name_byte name) b.1 in
    (both (not (bytes_eq name (codes ".."))) (list_all is_name_byte name) d.1).1

plain_itself : (name : List ℕ) → is_name name ≡ true → plain_name name ≡ name
plain_itself name h = ap plain_name (sym (nothing_after name)) ∙ (plain_before name [] (name_bytes name h) ∙ nothing_after name)

joined : (name digits : List ℕ) → name ++ 64 ∷ [] ++ digits ≡ name ++ 64 ∷ digits
joined [] digits = refl
joined (c ∷ cs) digits = ap (λ (s : List ℕ). c ∷ s) (joined cs digits)

plain_numbered : (d : Entry) → is_name d.name ≡ true → plain_name (numbered_name d) ≡ d.name
plain_numbered d h = ap plain_name (joined d.name (decimal d.ino)) ∙ (plain_before d.name (64 ∷ decimal d.ino) (name_bytes d.name h) ∙ nothing_after d.name)

meant_plain : (component : List ℕ) (d : Entry) → is_name d.name ≡ true → is_meant component d ≡ true → plain_name component ≡ d.name
meant_plain component d named h = over (or_either (bytes_eq d.name component) (bytes_eq (numbered_name d) component) (both (is_live d) _ h).1)
  where
    over : (bytes_eq d.name component ≡ true) ⊎ (bytes_eq (numbered_name d) component ≡ true) → plain_name component ≡ d.name
    over (inl e) = ap plain_name (sym ((bytes_eq-Decides d.name component).0 e)) ∙ plain_itself d.name named
    over (inr e) = ap plain_name (sym ((bytes_eq-Decides (numbered_name d) component).0 e)) ∙ plain_numbered d named

-- ---- the only entry of a pair ----

-- the entry is one of these
abbrev IsIn : Entry → List Entry → Type 0
IsIn d [] = ⊥
IsIn d (e ∷ es) = (e ≡ d) ⊎ IsIn d es

all_in : (P : Entry → Type 0) (d : Entry) (es : List Entry) → AllByRecursion P es → IsIn d es → P d
all_in P d [] h m = absurd m
all_in P d (e ∷ es) h (inl is) = subst P is h.0
all_in P d (e ∷ es) h (inr m) = all_in P d es h.1 m

filtered_in : (p : Entry → Bool) (d : Entry) (es : List Entry) → IsIn d (filter p es) → IsIn d es × (p d ≡ true)
filtered_in p d [] m = absurd m
filtered_in p d (e ∷ es) m = over (filtered_in p d es) (p e) refl m
  where
    over : (IsIn d (filter p es) → IsIn d es × (p d ≡ true)) → (b : Bool) → p e ≡ b → IsIn d (cond b (e ∷ filter p es) (filter p es)) → IsIn d (e ∷ es) × (p d ≡ true)
    over later true k (inl is) = (inl is, subst (λ (x : Entry). p x ≡ true) is k)
    over later true k (inr m) = (inr (later m).0, (later m).1)
    over later false k m = (inr (later m).0, (later m).1)

less_equal : Equal ≡ Less → ⊥
less_equal e = cc

own_pair : (d : Entry) → is_pair d.name d.ino d ≡ true
own_pair d = ap (λ (b : Bool). b && (d.ino == d.ino)) ((bytes_eq-Decides d.name d.name).1 refl) ∙ equal_self d.ino

pair_cmp : (d e : Entry) → is_pair d.name d.ino e ≡ true → entry_cmp e d ≡ Equal
pair_cmp d e h = subst (λ (name : List ℕ). entry_cmp (record e { name = name }) d ≡ Equal) (sym ((bytes_eq-Decides e.name d.name).0 two.0))
    (subst (λ (ino : ℕ). entry_cmp (record e { name = d.name; ino = ino }) d ≡ Equal) (sym (equal e.ino d.ino two.1)) (tied_itself entry_total d))
  where
    two : (bytes_eq e.name d.name ≡ true) × ((e.ino == d.ino) ≡ true)
    two = both (bytes_eq e.name d.name) (e.ino == d.ino) h

pair_found : (d : Entry) (ds : List Entry) → Ascends ds → IsIn d ds → pair_in d.name d.ino ds ≡ Some d
pair_found d [] h m = absurd m
pair_found d (e ∷ es) h (inl is) = ap (λ (b : Bool). cond b (Some e) (pair_in d.name d.ino es)) (subst (λ (x : Entry). is_pair d.name d.ino x ≡ true) (sym is) (own_pair d)) ∙ ap Some is
pair_found d (e ∷ es) h (inr m) = over (pair_found d es h.1 m) (is_pair d.name d.ino e) refl
  where
    over : pair_in d.name d.ino es ≡ Some d → (b : Bool) → is_pair d.name d.ino e ≡ b → cond b (Some e) (pair_in d.name d.ino es) ≡ Some d
    over later true k = absurd (less_equal (sym (pair_cmp d e k) ∙ all_in (λ x. entry_cmp e x ≡ Less) d es h.0 m))
    over later false k = later

-- ---- what is found ----

found_number : (a i : ℕ) (k l : Kind) → look.Found a k ≡ look.Found i l → a ≡ i
found_number a i k l e = cc

only_one : (xs : List Entry) (ino : ℕ) (kind : Kind) → look_among xs ≡ look.Found ino kind → (d : Entry) × IsIn d xs × (d.ino ≡ ino)
only_one [] ino kind e = absurd (none e)
  where
    none : look.Absent ≡ look.Found ino kind → ⊥
    none e = cc
only_one (d ∷ []) ino kind e = (d, inl refl, found_number d.ino ino d.kind kind e)
only_one (d ∷ x ∷ xs) ino kind e = absurd (several e)
  where
    several : look.Ambiguous d.ino x.ino ≡ look.Found ino kind → ⊥
    several e = cc

pub found_pair : (component : List ℕ) (ds : List Entry) (ino : ℕ) (kind : Kind) → IsDir ds → lookup ds component ≡ look.Found ino kind → IsLivePair (plain_name component) ino ds
found_pair component ds ino kind h e = record {
  entry = d;
  found = ap (λ (name : List ℕ). pair_in name ino ds) (meant_plain component d (all_in IsEntry d ds h.entries here.0).name here.1)
      ∙ (ap (λ (n : ℕ). pair_in d.name n ds) (sym one.2) ∙ pair_found d ds h.order here.0);
  live = (both (is_live d) _ here.1).0;
}
  where
    one : (d : Entry) × IsIn d (filter (is_meant component) ds) × (d.ino ≡ ino)
    one = only_one (filter (is_meant component) ds) ino kind e

    d : Entry
    d = one.0

    here : IsIn d ds × (is_meant component d ≡ true)
    here = filtered_in (is_meant component) d ds one.1

-- ---- it can be removed ----

pub remove_leaves : (name : List ℕ) (ino : ℕ) (seen : List ℕ) (ds : List Entry) → IsDir ds → IsVector seen → IsLivePair name ino ds → (d : DirEffect) × (remove_effect name ino seen ds ≡ Some d) × (is_dir d.entries ≡ true)
remove_leaves name ino seen ds h v p = (
  becomes ds (with_entry (removed p.entry seen) ds) (is_spent p.entry),
  ap (λ (o : Option Entry). remove_entry seen ds (live_one o)) p.found ∙ ap (λ (b : Bool). remove_entry seen ds (cond b (Some p.entry) None)) p.live,
  remove_passes p.entry seen ds h (find_has IsEntry (is_pair name ino) ds p.entry p.found h.entries) p.live (kind_of_found (is_pair name ino) ds p.entry p.found h.kinds) v,
)
