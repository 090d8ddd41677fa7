-- What a site has of a file in an epoch moves only where the site commits it or adopts it in the epoch, or joins the epoch.
use Rattle.std.proofs.Common.{◌≡◌, ℕ, ◌==◌, Bool, true, false, ◌&&◌, cond, List, [], ◌∷◌, ◌++◌, map, Option, Some, None, refl, sym, ap, ◌∙◌, ◌⊎◌, inl, inr}
use Rattle.std.specs.Option.{is_none}
use Rattle.role_steps.proofs.of_plain_facts.Numbers.{equal, equal_self}
use Rattle.role_steps.proofs.of_plain_facts.Tests.{and_first, and_second, true_false}
use Rattle.locus_ids.specs.declared.ids.FileId.{FileId}
use Rattle.locus_ids.specs.declared.ids.Stamp.{Stamp}
use Rattle.commit_graph.specs.declared.history.Version.{Version}
use Rattle.trace_book.specs.Same.{same_epoch}
use Rattle.trace_book.specs.declared.record.Record.{Record}
use Rattle.trace_book.specs.declared.record.Record.TheVariants as says
use Rattle.tree_model.specs.declared.copy.HeldCopy.{HeldCopy}
use Rattle.tree_model.specs.Histories.{format_stamp}
use Rattle.tree_model.specs.Lists.{put_first}
use Rattle.tree_model.specs.Packs.{has_pack}
use Rattle.tree_model.specs.State.{TreeState, copy_of, held_at, held_of, is_copy_of, is_granted_here, is_inside, is_make, with_copy}
use Rattle.tree_model.specs.Tree.{acted, copy_now, entered, grant_of, granted, has_now, joined, left, next, released, with_root, without_make}

-- the record puts a version of the inode at the site, in the epoch of the tree
abbrev pub PutsAt : TreeState → ℕ → ℕ → FileId → ℕ → Type 0
PutsAt t site ino f s = (f.group ≡ t.group) × (f.ino ≡ ino) × (s ≡ site) × (is_inside t s ≡ true)

abbrev pub Moves : TreeState → ℕ → ℕ → Record → Type 0
Moves t site ino (says.Commit f s stamp parents content) = PutsAt t site ino f s
Moves t site ino (says.Adopt f s stamp) = PutsAt t site ino f s
Moves t site ino (says.Join s e m) = (s ≡ site) × (same_epoch e t.epoch ≡ true)
Moves t site ino _ = ⊥

-- ---- copies ----

-- the copies of another site enter
entered_other : (s site ino : ℕ) (cs : List HeldCopy) → (s == site) ≡ false → held_of (copy_of (map (entered s) cs) site ino) ≡ held_of (copy_of cs site ino)
entered_other s site ino [] other = refl
entered_other s site ino (x ∷ xs) other = over (x.site == s) refl (entered_other s site ino xs other)
  where
    passed : (x.site == s) ≡ true → is_copy_of site ino x ≡ false
    passed k = ap (λ (b : Bool). b && (x.ino == ino)) (ap (λ (n : ℕ). n == site) (equal x.site s k) ∙ other)

    by : (b : Bool) (y : HeldCopy) → held_of (copy_of (map (entered s) xs) site ino) ≡ held_of (copy_of xs site ino) → held_of (cond b (Some y) (copy_of (map (entered s) xs) site ino)) ≡ held_of (cond b (Some y) (copy_of xs site ino))
    by true y later = refl
    by false y later = later

    over : (b : Bool) → (x.site == s) ≡ b → held_of (copy_of (map (entered s) xs) site ino) ≡ held_of (copy_of xs site ino)
        → held_of (copy_of (cond b (record x { held = Some x.now }) x ∷ map (entered s) xs) site ino) ≡ held_of (copy_of (x ∷ xs) site ino)
    over true k later =
        ap (λ (b : Bool). held_of (cond b (Some (record x { held = Some x.now })) (copy_of (map (entered s) xs) site ino))) (passed k)
        ∙ (later ∙ sym (ap (λ (b : Bool). held_of (cond b (Some x) (copy_of xs site ino))) (passed k)))
    over false k later = by (is_copy_of site ino x) x later

added_other : (cs : List HeldCopy) (y : HeldCopy) (site ino : ℕ) → is_copy_of site ino y ≡ false → copy_of (cs ++ y ∷ []) site ino ≡ copy_of cs site ino
added_other [] y site ino other = rw other refl
added_other (x ∷ xs) y site ino other = ap (λ (o : Option HeldCopy). cond (is_copy_of site ino x) (Some x) o) (added_other xs y site ino other)

rooted_other : (t : TreeState) (s site ino : ℕ) → (s == site) ≡ false → copy_of (with_root t s) site ino ≡ copy_of t.copies site ino
rooted_other t s site ino other = at (has_pack t.config t.group s && is_none (copy_of t.copies s 1))
  where
    at : (b : Bool) → copy_of (cond b (t.copies ++ record { site = s; ino = 1; now = format_stamp; held = None } ∷ []) t.copies) site ino ≡ copy_of t.copies site ino
    at true = added_other t.copies (record { site = s; ino = 1; now = format_stamp; held = None }) site ino (ap (λ (b : Bool). b && (1 == ino)) other)
    at false = refl

-- the copy that is put is found
put_found : (a b : ℕ) (new : HeldCopy) (cs : List HeldCopy) → is_copy_of a b new ≡ true → copy_of (put_first (is_copy_of a b) new cs) a b ≡ Some new
put_found a b new [] is = rw is refl
put_found a b new (x ∷ xs) is = at (is_copy_of a b x) refl (put_found a b new xs is)
  where
    at : (k : Bool) → is_copy_of a b x ≡ k → copy_of (put_first (is_copy_of a b) new xs) a b ≡ Some new → copy_of (cond k (new ∷ xs) (x ∷ put_first (is_copy_of a b) new xs)) a b ≡ Some new
    at true k later = rw is refl
    at false k later = rw k later

-- and another copy stays
put_other : (a b : ℕ) (new : HeldCopy) (cs : List HeldCopy) (site ino : ℕ) → is_copy_of site ino new ≡ false → ((x : HeldCopy) → is_copy_of a b x ≡ true → is_copy_of site ino x ≡ false) → copy_of (put_first (is_copy_of a b) new cs) site ino ≡ copy_of cs site ino
put_other a b new [] site ino other apart = rw other refl
put_other a b new (x ∷ xs) site ino other apart = at (is_copy_of a b x) refl (put_other a b new xs site ino other apart)
  where
    at : (k : Bool) → is_copy_of a b x ≡ k → copy_of (put_first (is_copy_of a b) new xs) site ino ≡ copy_of xs site ino → copy_of (cond k (new ∷ xs) (x ∷ put_first (is_copy_of a b) new xs)) site ino ≡ copy_of (x ∷ xs) site ino
    at true k later = rw other (rw (apart x k) refl)
    at false k later = ap (λ (o : Option HeldCopy). cond (is_copy_of site ino x) (Some x) o) later

-- ---- record by record ----

abbrev Stays : TreeState → TreeState → ℕ → ℕ → Type 0
Stays u t site ino = held_at u site ino ≡ held_at t site ino

same_if : (b : Bool) (u t : TreeState) (site ino : ℕ) → Stays u t site ino → Stays (cond b u t) t site ino
same_if true u t site ino e = e
same_if false u t site ino e = refl

now_moves : (t : TreeState) (f : FileId) (s : ℕ) (stamp : Stamp) (site ino : ℕ) → Stays (has_now f s stamp t) t site ino ⊎ PutsAt t site ino f s
now_moves t f s stamp site ino = over (f.group == t.group) refl
  where
    new : HeldCopy
    new = copy_now t s f.ino stamp

    both : (a b : Bool) → a ≡ true → b ≡ true → a && b ≡ true
    both true true e k = refl
    both true false e k = k
    both false b e k = absurd (true_false (sym e))

    found : copy_of (with_copy new t.copies) s f.ino ≡ Some new
    found = put_found s f.ino new t.copies (both (s == s) (f.ino == f.ino) (equal_self s) (equal_self f.ino))

    apart : is_copy_of site ino new ≡ false → (x : HeldCopy) → is_copy_of s f.ino x ≡ true → is_copy_of site ino x ≡ false
    apart k x is = ap (λ (n : ℕ). (n == site) && (x.ino == ino)) (equal x.site s (and_first (x.site == s) _ is)) ∙ (ap (λ (n : ℕ). (s == site) && (n == ino)) (equal x.ino f.ino (and_second (x.site == s) _ is)) ∙ k)

    here : (f.group == t.group) ≡ true → is_copy_of site ino new ≡ true → (b : Bool) → is_inside t s ≡ b → (held_of (copy_of (with_copy new t.copies) site ino) ≡ held_at t site ino) ⊎ PutsAt t site ino f s
    here g is true inside = inr (equal f.group t.group g, equal f.ino ino (and_second (s == site) _ is), equal s site (and_first (s == site) _ is), inside)
    here g is false inside = inl (
        let at : s ≡ site = equal s site (and_first (s == site) _ is) in
        let of : f.ino ≡ ino = equal f.ino ino (and_second (s == site) _ is) in
        ap (λ (n : ℕ). held_of (copy_of (with_copy new t.copies) n ino)) (sym at) ∙ (ap (λ (n : ℕ). held_of (copy_of (with_copy new t.copies) s n)) (sym of)
        ∙ (ap held_of found ∙ (ap (λ (b : Bool). cond b (Some stamp) (held_at t s f.ino)) inside ∙ (ap (λ (n : ℕ). held_at t n f.ino) at ∙ ap (λ (n : ℕ). held_at t site n) of)))))

    with : (f.group == t.group) ≡ true → (b : Bool) → is_copy_of site ino new ≡ b → (held_of (copy_of (with_copy new t.copies) site ino) ≡ held_at t site ino) ⊎ PutsAt t site ino f s
    with g true k = here g k (is_inside t s) refl
    with g false k = inl (ap held_of (put_other s f.ino new t.copies site ino k (apart k)))

    over : (b : Bool) → (f.group == t.group) ≡ b → (held_of (copy_of (cond b (with_copy new t.copies) t.copies) site ino) ≡ held_at t site ino) ⊎ PutsAt t site ino f s
    over true g = with g (is_copy_of site ino new) refl
    over false g = inl refl

join_moves : (t : TreeState) (s : ℕ) (b : Bool) (u : TreeState) (site ino : ℕ) → u.copies ≡ map (entered s) (with_root t s) → Stays (cond b u (left s t)) t site ino ⊎ ((s ≡ site) × (b ≡ true))
join_moves t s false u site ino e = inl refl
join_moves t s true u site ino e = over (s == site) refl
  where
    over : (b : Bool) → (s == site) ≡ b → Stays u t site ino ⊎ ((s ≡ site) × (true ≡ true))
    over true k = inr (equal s site k, refl)
    over false k = inl (ap (λ (cs : List HeldCopy). held_of (copy_of cs site ino)) e ∙ (entered_other s site ino (with_root t s) k ∙ ap held_of (rooted_other t s site ino k)))

pub held_moves : (h : List Version) (t : TreeState) (r : Record) (site ino : ℕ) → (held_at (next h r t) site ino ≡ held_at t site ino) ⊎ Moves t site ino r
held_moves h t (says.Join s e m) site ino = join_moves t s (same_epoch e t.epoch) (joined s m t) site ino refl
held_moves h t (says.Start e g copies) site ino = inl (same_if (same_epoch e t.epoch && (g == t.group)) (record t { started = true }) t site ino refl)
held_moves h t (says.Commit f s stamp parents content) site ino = now_moves t f s stamp site ino
held_moves h t (says.Adopt f s stamp) site ino = now_moves t f s stamp site ino
held_moves h t (says.Grant e call request i m f stamp ss) site ino = inl (same_if (same_epoch e t.epoch) (granted h (grant_of t call i m f ss) stamp t) t site ino refl)
held_moves h t (says.Refuse e call request i m f why) site ino = inl (same_if (same_epoch e t.epoch && ((f.group == t.group) && is_make m)) (record t { makes = without_make call t.makes }) t site ino refl)
held_moves h t (says.Act e i n o result) site ino = inl (same_if (same_epoch e t.epoch && is_granted_here t i) (acted h i o result t) t site ino refl)
held_moves h t (says.Release e i f stamp) site ino = inl (same_if (same_epoch e t.epoch && (f.group == t.group)) (released i f stamp t) t site ino refl)
held_moves h t r site ino = inl refl
