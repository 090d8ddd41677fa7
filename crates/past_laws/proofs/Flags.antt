-- A record that may follow flags a file exactly where two kept versions are concurrent, and names the two least.
use Rattle.std.proofs.Common.{◌≡◌, ℕ, ◌==◌, Bool, true, false, not, cond, ◌&&◌, ◌||◌, ◌⊎◌, inl, inr, List, [], ◌∷◌, filter, length, map, nat_lt, take, arith, Option, Some, None, refl, sym, ap, ◌∙◌}
use Rattle.std.specs.List.{list_any, list_all}
use Rattle.std.specs.Option.{is_none, option_or}
use Rattle.locus_ids.specs.declared.config.Config.{Config}
use Rattle.locus_ids.specs.declared.ids.CallId.{CallId}
use Rattle.locus_ids.specs.declared.ids.EpochId.{EpochId}
use Rattle.locus_ids.specs.declared.ids.FileId.{FileId}
use Rattle.locus_ids.specs.declared.ids.Mode.{Mode}
use Rattle.locus_ids.specs.declared.ids.Mode.TheVariants as mode
use Rattle.locus_ids.specs.declared.ids.Serial.{Serial}
use Rattle.locus_ids.specs.declared.ids.Stamp.{Stamp}
use Rattle.locus_ids.specs.declared.refusal.Refusal.{Refusal}
use Rattle.locus_ids.specs.declared.refusal.Refusal.TheVariants.{Conflict, NoStorage}
use Rattle.commit_graph.specs.declared.history.Version.{Version}
use Rattle.commit_graph.specs.Grants.{Opener, excluder, grant_refusal, kept_refusal}
use Rattle.commit_graph.specs.Versions.{is_ancestor, is_covered, is_proper_ancestor, is_stamp_below, is_version, same_file, same_stamp}
use Rattle.trace_book.specs.declared.operation.Served.{Served}
use Rattle.trace_book.specs.declared.operation.Served.TheVariants as served
use Rattle.trace_book.specs.declared.operation.What.{What}
use Rattle.trace_book.specs.declared.operation.What.TheVariants as what
use Rattle.trace_book.specs.declared.record.Record.{Record}
use Rattle.trace_book.specs.declared.record.Record.TheVariants as says
use Rattle.tree_model.specs.Folds.{Trace}
use Rattle.tree_model.specs.Given.{only_kept, served_by}
use Rattle.tree_model.specs.Same.{is_served, same_refusal}
use Rattle.tree_model.specs.State.{has_stamp, is_make}
use Rattle.promises.specs.Past.{Past, Epoch, CallSoFar, Copy, candidates, epoch_at, is_number, kept_in}
use Rattle.promises.specs.After.{is_copy_below, is_id}
use Rattle.promises.specs.Headline.{are_concurrent, flags_rightly, has_concurrent, is_conflict}
use Rattle.promises.specs.Rows.{asks_open, is_refused, is_step_of, is_synced, may_follow}
use Rattle.promises.specs.Same.{same_list}
use Rattle.promises.specs.Tree.{has_kept, is_placed, open_refusal, openers, place_for, place_refusal, resolves_from, set_for}
use Rattle.tree_model.specs.Packs.{is_within, packs_of}
use Rattle.tree_model.specs.Epochs.{is_in}
use Rattle.tree_model.specs.declared.instance.Granted.{Granted}
use Rattle.trace_book.specs.Same.{same_serial}
use Rattle.past_laws.specs.Agreement.{Agrees, ascends}
use Rattle.std.proofs.lemmas.Bool.{or_parts}
use Rattle.std.proofs.lemmas.Bool.Decides.{nat_tests}
use Rattle.past_laws.proofs.Names.{both, both_parts, false_true, file_eq, stamp_eq, stamp_own}
use Rattle.past_laws.proofs.TreesLists.{all_filter}
use Rattle.past_laws.proofs.TreesSorted.{stamps}

-- Versions stand to each other.

own_ancestor : (h : List Version) (f : FileId) (s : Stamp) → is_ancestor h f s s ≡ true
own_ancestor [] f s = stamp_own s
own_ancestor (v ∷ older) f s = at (own_ancestor older f s) (is_version f s v)
  where
    at : is_ancestor older f s s ≡ true → (b : Bool) → cond b (same_stamp s s || list_any (is_ancestor older f s) v.parents) (is_ancestor older f s s) ≡ true
    at later true = ap (λ b. b || list_any (is_ancestor older f s) v.parents) (stamp_own s)
    at later false = later

-- one that is kept alone isn't concurrent with any
alone : (p : Past) (t : Epoch) (f : FileId) (s : Stamp) → kept_in p t f ≡ s ∷ [] → has_concurrent p t f ≡ false
alone p t f s e = ap (λ ss. list_any (λ a. list_any (are_concurrent p.history f a) ss) ss) e ∙ (ap (λ b. ((not b && not b) || false) || false) (own_ancestor p.history f s))

-- what passes nowhere passes nowhere in a part
part_none : {X : Type 0} (q r : X → Bool) (xs : List X) → list_any q xs ≡ false → list_any q (filter r xs) ≡ false
part_none q r [] h = refl
part_none {X} q r (x ∷ xs) h = at (part_none q r xs parts.1) (r x)
  where
    parts : (q x ≡ false) × (list_any q xs ≡ false)
    parts = or_parts (q x) (list_any q xs) h

    at : list_any q (filter r xs) ≡ false → (b : Bool) → list_any q (cond b (x ∷ filter r xs) (filter r xs)) ≡ false
    at later true = ap (λ b. b || list_any q (filter r xs)) parts.0 ∙ later
    at later false = later

passing : {X : Type 0} (r : X → Bool) (xs : List X) → list_all r (filter r xs) ≡ true
passing r [] = refl
passing {X} r (x ∷ xs) = at (passing r xs) (r x) refl
  where
    at : list_all r (filter r xs) ≡ true → (b : Bool) → r x ≡ b → list_all r (cond b (x ∷ filter r xs) (filter r xs)) ≡ true
    at later true e = both (r x) (list_all r (filter r xs)) e later
    at later false e = later

part_ascends : {X : Type 0} (below : X → X → Bool) (r : X → Bool) (xs : List X) → ascends below xs ≡ true → ascends below (filter r xs) ≡ true
part_ascends below r [] h = refl
part_ascends {X} below r (x ∷ xs) h = at (part_ascends below r xs parts.1) (r x)
  where
    parts : (list_all (below x) xs ≡ true) × (ascends below xs ≡ true)
    parts = both_parts (list_all (below x) xs) (ascends below xs) h

    at : ascends below (filter r xs) ≡ true → (b : Bool) → ascends below (cond b (x ∷ filter r xs) (filter r xs)) ≡ true
    at later true = both (list_all (below x) (filter r xs)) (ascends below (filter r xs)) (all_filter (below x) r xs parts.0) later
    at later false = later

-- the versions of one file ascend by their stamps
off : (a b : ℕ) (x : Bool) → a ≡ b → (nat_lt a b || ((a == b) && x)) ≡ true → x ≡ true
off a b true e h = refl
off a b false e h = grind (arith, nat_tests)

level : (v w : Copy) (f : FileId) → same_file v.file f ≡ true → same_file w.file f ≡ true → is_copy_below v w ≡ true → is_stamp_below v.stamp w.stamp ≡ true
level v w f e g h = off v.file.ino w.file.ino (is_stamp_below v.stamp w.stamp) (ap (λ (x : FileId). x.ino) same)
    (off v.file.group w.file.group (nat_lt v.file.ino w.file.ino || ((v.file.ino == w.file.ino) && is_stamp_below v.stamp w.stamp)) (ap (λ (x : FileId). x.group) same) h)
  where
    same : v.file ≡ w.file
    same = file_eq v.file f e ∙ sym (file_eq w.file f g)

all_stamps : (v : Copy) (f : FileId) (vs : List Copy) → same_file v.file f ≡ true → list_all (is_copy_below v) vs ≡ true → list_all (is_stamp_below v.stamp) (map (λ (w : Copy). w.stamp) (filter (λ (w : Copy). same_file w.file f) vs)) ≡ true
all_stamps v f [] e h = refl
all_stamps v f (w ∷ ws) e h = at (all_stamps v f ws e parts.1) (same_file w.file f) refl
  where
    parts : (is_copy_below v w ≡ true) × (list_all (is_copy_below v) ws ≡ true)
    parts = both_parts (is_copy_below v w) (list_all (is_copy_below v) ws) h

    rest : List Copy
    rest = filter (λ (x : Copy). same_file x.file f) ws

    at : list_all (is_stamp_below v.stamp) (map (λ (x : Copy). x.stamp) rest) ≡ true → (b : Bool) → same_file w.file f ≡ b → list_all (is_stamp_below v.stamp) (map (λ (x : Copy). x.stamp) (cond b (w ∷ rest) rest)) ≡ true
    at later true g = both (is_stamp_below v.stamp w.stamp) (list_all (is_stamp_below v.stamp) (map (λ (x : Copy). x.stamp) rest)) (level v w f e g parts.0) later
    at later false g = later

stamps_ascend : (f : FileId) (vs : List Copy) → ascends is_copy_below vs ≡ true → ascends is_stamp_below (map (λ (v : Copy). v.stamp) (filter (λ (v : Copy). same_file v.file f) vs)) ≡ true
stamps_ascend f [] h = refl
stamps_ascend f (v ∷ vs) h = at (stamps_ascend f vs parts.1) (same_file v.file f) refl
  where
    parts : (list_all (is_copy_below v) vs ≡ true) × (ascends is_copy_below vs ≡ true)
    parts = both_parts (list_all (is_copy_below v) vs) (ascends is_copy_below vs) h

    rest : List Copy
    rest = filter (λ (x : Copy). same_file x.file f) vs

    at : ascends is_stamp_below (map (λ (x : Copy). x.stamp) rest) ≡ true → (b : Bool) → same_file v.file f ≡ b → ascends is_stamp_below (map (λ (x : Copy). x.stamp) (cond b (v ∷ rest) rest)) ≡ true
    at later true e = both (list_all (is_stamp_below v.stamp) (map (λ (x : Copy). x.stamp) rest)) (ascends is_stamp_below (map (λ (x : Copy). x.stamp) rest)) (all_stamps v f vs e parts.0) later
    at later false e = later

-- two that are kept are concurrent
kept_apart : (p : Past) (t : Epoch) (f : FileId) (x y : Stamp) (rest : List Stamp) → ascends is_copy_below t.known ≡ true → kept_in p t f ≡ x ∷ y ∷ rest → are_concurrent p.history f x y ≡ true
kept_apart p t f x y rest asc e = both (not (is_ancestor p.history f x y)) (not (is_ancestor p.history f y x)) (free x y differ (one x (first.0)).1) (free y x (turned differ) (one y second).0)
  where
    h : List Version
    h = p.history

    brought : List Stamp
    brought = candidates t f

    is_free : Stamp → Bool
    is_free s = not (is_covered h f brought s)

    all_free : list_all is_free (x ∷ y ∷ rest) ≡ true
    all_free = ap (list_all is_free) (sym e) ∙ passing is_free brought

    first : (is_free x ≡ true) × ((is_free y && list_all is_free rest) ≡ true)
    first = both_parts (is_free x) (is_free y && list_all is_free rest) all_free

    second : is_free y ≡ true
    second = (both_parts (is_free y) (list_all is_free rest) first.1).0

    below : is_stamp_below x y ≡ true
    below = (both_parts (is_stamp_below x y) (list_all (is_stamp_below x) rest) (both_parts (list_all (is_stamp_below x) (y ∷ rest)) (ascends is_stamp_below (y ∷ rest)) (ap (ascends is_stamp_below) (sym e) ∙ part_ascends is_stamp_below is_free brought (stamps_ascend f t.known asc))).0).0

    differ : same_stamp x y ≡ false
    differ = at (same_stamp x y) refl
      where
        at : (b : Bool) → same_stamp x y ≡ b → same_stamp x y ≡ false
        at false k = k
        at true k = false_true (sym (stamps.never y) ∙ (ap (λ z. is_stamp_below z y) (sym (stamp_eq x y k)) ∙ below))

    turned : same_stamp x y ≡ false → same_stamp y x ≡ false
    turned k = at (same_stamp y x) refl
      where
        at : (b : Bool) → same_stamp y x ≡ b → same_stamp y x ≡ false
        at false j = j
        at true j = false_true (sym k ∙ (ap (same_stamp x) (stamp_eq y x j) ∙ stamp_own x))

    not_false : (b : Bool) → not b ≡ true → b ≡ false
    not_false true k = sym k
    not_false false k = refl

    -- one that is free is no proper ancestor of the two
    one : (s : Stamp) → is_free s ≡ true → (is_proper_ancestor h f s x ≡ false) × (is_proper_ancestor h f s y ≡ false)
    one s k = (let none : list_any (is_proper_ancestor h f s) (x ∷ y ∷ rest) ≡ false = ap (list_any (is_proper_ancestor h f s)) (sym e) ∙ part_none (is_proper_ancestor h f s) is_free brought (not_false (is_covered h f brought s) k)
        in let head : (is_proper_ancestor h f s x ≡ false) × ((is_proper_ancestor h f s y || list_any (is_proper_ancestor h f s) rest) ≡ false) = or_parts (is_proper_ancestor h f s x) (is_proper_ancestor h f s y || list_any (is_proper_ancestor h f s) rest) none
        in (head.0, (or_parts (is_proper_ancestor h f s y) (list_any (is_proper_ancestor h f s) rest) head.1).0))

    free : (a b : Stamp) → same_stamp a b ≡ false → is_proper_ancestor h f a b ≡ false → not (is_ancestor h f a b) ≡ true
    free a b k j = ap (λ z. not (not z && is_ancestor h f a b)) (sym k) ∙ ap not j

conflict_so : (p : Past) (t : Epoch) (f : FileId) (x y a b : Stamp) (rest : List Stamp) → ascends is_copy_below t.known ≡ true → kept_in p t f ≡ x ∷ y ∷ rest → same_stamp x a ≡ true → same_stamp y b ≡ true → is_conflict p t f a b ≡ true
conflict_so p t f x y a b rest asc e h k = both (has_concurrent p t f) (same_list same_stamp (a ∷ b ∷ []) (take 2 (kept_in p t f)))
    (ap (λ ss. list_any (λ s. list_any (are_concurrent p.history f s) ss) ss) e ∙ found (are_concurrent p.history f x x) (kept_apart p t f x y rest asc e))
    (ap (λ ss. same_list same_stamp (a ∷ b ∷ []) (take 2 ss)) e ∙ both (same_stamp a x) (same_stamp b y && true) (ap (λ z. same_stamp z x) (sym (stamp_eq x a h)) ∙ stamp_own x) (both (same_stamp b y) true (ap (λ z. same_stamp z y) (sym (stamp_eq y b k)) ∙ stamp_own y) refl))
  where
    more : (c : Bool) → (true || c) ≡ true
    more c = refl

    found : (own : Bool) → are_concurrent p.history f x y ≡ true → ((own || (are_concurrent p.history f x y || list_any (are_concurrent p.history f x) rest)) || list_any (λ s. list_any (are_concurrent p.history f s) (x ∷ y ∷ rest)) (y ∷ rest)) ≡ true
    found true j = refl
    found false j = ap (λ z. (z || list_any (are_concurrent p.history f x) rest) || list_any (λ s. list_any (are_concurrent p.history f s) (x ∷ y ∷ rest)) (y ∷ rest)) j

-- What the kept versions refuse.

-- the first two of these
pub record Starts (ss : List Stamp) (a b : Stamp) : Type 0 where
  pub x : Stamp
  pub y : Stamp
  pub rest : List Stamp
  pub is : ss ≡ x ∷ y ∷ rest
  pub first : same_stamp x a ≡ true
  pub second : same_stamp y b ≡ true

starts : (x y a b : Stamp) (rest : List Stamp) → (same_stamp x a && same_stamp y b) ≡ true → Starts (x ∷ y ∷ rest) a b
starts x y a b rest h = (let parts : (same_stamp x a ≡ true) × (same_stamp y b ≡ true) = both_parts (same_stamp x a) (same_stamp y b) h
    in record { x = x; y = y; rest = rest; is = refl; first = parts.0; second = parts.1 })

starts_so : (p : Past) (t : Epoch) (f : FileId) (a b : Stamp) → ascends is_copy_below t.known ≡ true → Starts (kept_in p t f) a b → is_conflict p t f a b ≡ true
starts_so p t f a b asc k = conflict_so p t f k.x k.y a b k.rest asc k.is k.first k.second

-- it is Conflict, with these two
abbrev is_told : Option Refusal → Stamp → Stamp → Bool
is_told None a b = false
is_told (Some r) a b = same_refusal r (Conflict a b)

told_kept : (m : Mode) (ss : List Stamp) (a b : Stamp) → is_told (kept_refusal m ss) a b ≡ true → Starts ss a b
told_kept mode.Read [] a b h = false_true h
told_kept mode.Read (x ∷ []) a b h = false_true h
told_kept mode.Read (x ∷ y ∷ rest) a b h = starts x y a b rest h
told_kept mode.Write [] a b h = false_true h
told_kept mode.Write (x ∷ []) a b h = false_true h
told_kept mode.Write (x ∷ y ∷ rest) a b h = starts x y a b rest h
told_kept mode.Resolve [] a b h = false_true h
told_kept mode.Resolve (x ∷ []) a b h = false_true h
told_kept mode.Resolve (x ∷ y ∷ rest) a b h = false_true h
told_kept mode.Mend [] a b h = false_true h
told_kept mode.Mend (x ∷ []) a b h = false_true h
told_kept mode.Mend (x ∷ y ∷ rest) a b h = false_true h
told_kept mode.Make ss a b h = false_true h

told_grant : (m : Mode) (os : List Opener) (ss : List Stamp) (a b : Stamp) → is_told (grant_refusal m os ss) a b ≡ true → Starts ss a b
told_grant m os ss a b h = at (excluder m os) refl
  where
    at : (o : Option Opener) → excluder m os ≡ o → Starts ss a b
    at None e = told_kept m ss a b (rw (e, grant_refusal) at h)
    at (Some o) e = false_true (rw (e, grant_refusal) at h)

told_place : (c : Config) (p : Past) (t : Epoch) (k : CallSoFar) (m : Mode) (f : FileId) (a b : Stamp) → is_told (place_refusal c p t k m f) a b ≡ false
told_place c p t k mode.Resolve f a b = either (list_any (has_kept p t f) (resolves_from k.words))
  where
    either : (d : Bool) → is_told (cond d None (Some NoStorage)) a b ≡ false
    either true = refl
    either false = refl
told_place c p t k mode.Make f a b = either (is_within (set_for c f.group k) (packs_of c f.group) && nat_lt 0 (length (place_for c t f.group k)))
  where
    either : (d : Bool) → is_told (cond d None (Some NoStorage)) a b ≡ false
    either true = refl
    either false = refl
told_place c p t k m f a b = refl

told_either : (u w : Option Refusal) (a b : Stamp) → is_told w a b ≡ false → is_told (option_or u w) a b ≡ true → is_told u a b ≡ true
told_either None w a b none h = false_true (sym none ∙ h)
told_either (Some r) w a b none h = h

told_open : (c : Config) (p : Past) (t : Epoch) (k : CallSoFar) (m : Mode) (f : FileId) (a b : Stamp) → is_told (open_refusal c p t k m f) a b ≡ true → Starts (kept_in p t f) a b
told_open c p t k mode.Make f a b h = false_true (sym (told_place c p t k mode.Make f a b) ∙ h)
told_open c p t k m f a b h = told_grant m (openers t f) (kept_in p t f) a b (told_either (grant_refusal m (openers t f) (kept_in p t f)) (place_refusal c p t k m f) a b (told_place c p t k m f a b) h)

told_refused : (c : Config) (p : Past) (t : Epoch) (k : CallSoFar) (m : Mode) (f : FileId) (a b : Stamp) → is_refused c p t m f (Conflict a b) k ≡ true → is_told (open_refusal c p t k m f) a b ≡ true
told_refused c p t k m f a b h = at (open_refusal c p t k m f) refl
  where
    never : (d : Bool) → (d && false) ≡ false
    never true = refl
    never false = refl

    at : (o : Option Refusal) → open_refusal c p t k m f ≡ o → is_told (open_refusal c p t k m f) a b ≡ true
    at None e = false_true (sym (never (is_make m)) ∙ (rw (e, is_refused) at h))
    at (Some r) e = rw e (rw (e, is_refused) at h)

-- What is granted or served.

pub record Single (ss : List Stamp) : Type 0 where
  pub one : Stamp
  pub is : ss ≡ one ∷ []

single_so : (p : Past) (t : Epoch) (f : FileId) → Single (kept_in p t f) → not (has_concurrent p t f) ≡ true
single_so p t f k = ap not (alone p t f k.one k.is)

free_read : (m : Mode) → (m ≡ mode.Read) ⊎ (m ≡ mode.Write) → (os : List Opener) (ss : List Stamp) (o : Option Refusal) → is_none (option_or (grant_refusal m os ss) o) ≡ true → Single ss
free_read m which os ss o h = at (excluder m os) refl
  where
    by_kept_free : (n : Mode) → (n ≡ mode.Read) ⊎ (n ≡ mode.Write) → (xs : List Stamp) → is_none (option_or (kept_refusal n xs) o) ≡ true → Single xs
    by_kept_free mode.Read w [] k = false_true k
    by_kept_free mode.Read w (x ∷ []) k = record { one = x; is = refl }
    by_kept_free mode.Read w (x ∷ y ∷ rest) k = false_true k
    by_kept_free mode.Write w [] k = false_true k
    by_kept_free mode.Write w (x ∷ []) k = record { one = x; is = refl }
    by_kept_free mode.Write w (x ∷ y ∷ rest) k = false_true k
    by_kept_free n (inl e) xs k = absurd (cc)
    by_kept_free n (inr e) xs k = absurd (cc)

    at : (x : Option Opener) → excluder m os ≡ x → Single ss
    at None e = by_kept_free m which ss (rw (e, grant_refusal) at h)
    at (Some x) e = false_true (rw (e, grant_refusal) at h)

served_conflict : (w : What) (ss : List Stamp) (a b : Stamp) → is_served (served_by w ss) (served.No (Conflict a b)) ≡ true → Starts ss a b
served_conflict (what.Whole asked) ss a b h = false_true (sym (never (has_stamp ss asked)) ∙ h)
  where
    never : (d : Bool) → is_served (cond d (Some (served.At asked)) None) (served.No (Conflict a b)) ≡ false
    never true = refl
    never false = refl
served_conflict w [] a b h = false_true (sym (none w) ∙ h)
  where
    none : (v : What) → is_served (served_by v []) (served.No (Conflict a b)) ≡ false
    none (what.Whole asked) = refl
    none v = refl
served_conflict (what.Name n) (x ∷ []) a b h = false_true h
served_conflict what.List (x ∷ []) a b h = false_true h
served_conflict what.Stat (x ∷ []) a b h = false_true h
served_conflict (what.Name n) (x ∷ y ∷ rest) a b h = starts x y a b rest h
served_conflict what.List (x ∷ y ∷ rest) a b h = starts x y a b rest h
served_conflict what.Stat (x ∷ y ∷ rest) a b h = starts x y a b rest h

served_single : (ss : List Stamp) (s : Stamp) → is_served (Some (only_kept ss)) (served.At s) ≡ true → Single ss
served_single [] s h = false_true h
served_single (x ∷ []) s h = record { one = x; is = refl }
served_single (x ∷ y ∷ rest) s h = false_true h

-- Some call passes.

some_call : (passes : CallSoFar → Bool) (calls : List CallSoFar) → list_any passes calls ≡ true → (k : CallSoFar) × (passes k ≡ true)
some_call passes [] h = false_true h
some_call passes (k ∷ ks) h = at (some_call passes ks) (passes k) refl h
  where
    at : (list_any passes ks ≡ true → (x : CallSoFar) × (passes x ≡ true)) → (b : Bool) → passes k ≡ b → (b || list_any passes ks) ≡ true → (x : CallSoFar) × (passes x ≡ true)
    at later true e j = (k, e)
    at later false e j = later j

-- The records.

look_so : (c : Config) (p : Past) (e : EpochId) (id : CallId) (n : ℕ) (f : FileId) (w : What) (result : Served) → may_follow c p (says.Look e id n f w result) ≡ true → is_served (served_by w (kept_in p (epoch_at p e) f)) result ≡ true
look_so c p e id n f w result h = (both_parts (is_served (served_by w (kept_in p (epoch_at p e) f)) result) _ (both_parts (is_synced c (epoch_at p e) f.group) _ (both_parts (is_number (epoch_at p e).started f.group) _ h).1).1).0

pub flags_look : (c : Config) (p : Past) (e : EpochId) (id : CallId) (n : ℕ) (f : FileId) (w : What) (result : Served) → ascends is_copy_below (epoch_at p e).known ≡ true → may_follow c p (says.Look e id n f w result) ≡ true → flags_rightly p (says.Look e id n f w result) ≡ true
flags_look c p e id n f w (served.No (Conflict a b)) asc h = starts_so p (epoch_at p e) f a b asc (served_conflict w (kept_in p (epoch_at p e) f) a b (look_so c p e id n f w (served.No (Conflict a b)) h))
flags_look c p e id n f (what.Whole asked) (served.At s) asc h = refl
flags_look c p e id n f (what.Name name) (served.At s) asc h = single_so p (epoch_at p e) f (served_single (kept_in p (epoch_at p e) f) s (look_so c p e id n f (what.Name name) (served.At s) h))
flags_look c p e id n f what.List (served.At s) asc h = single_so p (epoch_at p e) f (served_single (kept_in p (epoch_at p e) f) s (look_so c p e id n f what.List (served.At s) h))
flags_look c p e id n f what.Stat (served.At s) asc h = single_so p (epoch_at p e) f (served_single (kept_in p (epoch_at p e) f) s (look_so c p e id n f what.Stat (served.At s) h))
flags_look c p e id n f w (served.No why) asc h = refl

grant_so : (c : Config) (p : Past) (e : EpochId) (id : CallId) (n : ℕ) (i : Serial) (m : Mode) (f : FileId) (stamp : Option Stamp) (ss : ℕ) → may_follow c p (says.Grant e id n i m f stamp ss) ≡ true → (k : CallSoFar) × (is_none (open_refusal c p (epoch_at p e) k m f) ≡ true)
grant_so c p e id n i m f stamp ss h = (it.0, (both_parts (is_none (open_refusal c p u it.0 m f)) _ (both_parts (asks_open c p n m f it.0) _ (both_parts (is_in it.0.epoch u.id) _ (both_parts (is_id id it.0) _ it.1).1).1).1).0)
  where
    u : Epoch
    u = epoch_at p e

    step : is_step_of p u id (λ k. asks_open c p n m f k && (is_none (open_refusal c p u k m f) && is_placed c p u k m f stamp ss)) ≡ true
    step = (both_parts (not (list_any (λ (g : Granted). same_serial g.inst i) u.granted)) _ (both_parts (i.us == id.site) _ (both_parts (is_number u.joined ss) _ (both_parts (is_synced c u f.group) _ (both_parts (is_number u.started f.group) _ h).1).1).1).1).1

    it : (k : CallSoFar) × ((is_id id k && (is_in k.epoch u.id && (asks_open c p n m f k && (is_none (open_refusal c p u k m f) && is_placed c p u k m f stamp ss)))) ≡ true)
    it = some_call (λ k. is_id id k && (is_in k.epoch u.id && (asks_open c p n m f k && (is_none (open_refusal c p u k m f) && is_placed c p u k m f stamp ss)))) p.calls step

pub flags_grant : (c : Config) (p : Past) (e : EpochId) (id : CallId) (n : ℕ) (i : Serial) (m : Mode) (f : FileId) (stamp : Option Stamp) (ss : ℕ) → may_follow c p (says.Grant e id n i m f stamp ss) ≡ true → flags_rightly p (says.Grant e id n i m f stamp ss) ≡ true
flags_grant c p e id n i mode.Read f stamp ss h = (let k : (k : CallSoFar) × (is_none (open_refusal c p (epoch_at p e) k mode.Read f) ≡ true) = grant_so c p e id n i mode.Read f stamp ss h
    in single_so p (epoch_at p e) f (free_read mode.Read (inl refl) (openers (epoch_at p e) f) (kept_in p (epoch_at p e) f) (place_refusal c p (epoch_at p e) k.0 mode.Read f) k.1))
flags_grant c p e id n i mode.Write f stamp ss h = (let k : (k : CallSoFar) × (is_none (open_refusal c p (epoch_at p e) k mode.Write f) ≡ true) = grant_so c p e id n i mode.Write f stamp ss h
    in single_so p (epoch_at p e) f (free_read mode.Write (inr refl) (openers (epoch_at p e) f) (kept_in p (epoch_at p e) f) (place_refusal c p (epoch_at p e) k.0 mode.Write f) k.1))
flags_grant c p e id n i m f stamp ss h = refl

pub flags_refuse : (c : Config) (p : Past) (e : EpochId) (id : CallId) (n : ℕ) (i : Serial) (m : Mode) (f : FileId) (why : Refusal) → ascends is_copy_below (epoch_at p e).known ≡ true → may_follow c p (says.Refuse e id n i m f why) ≡ true → flags_rightly p (says.Refuse e id n i m f why) ≡ true
flags_refuse c p e id n i m f (Conflict a b) asc h = starts_so p u f a b asc (told_open c p u it.0 m f a b (told_refused c p u it.0 m f a b (both_parts (asks_open c p n m f it.0) _ (both_parts (is_in it.0.epoch u.id) _ (both_parts (is_id id it.0) _ it.1).1).1).1))
  where
    u : Epoch
    u = epoch_at p e

    step : is_step_of p u id (λ k. asks_open c p n m f k && is_refused c p u m f (Conflict a b) k) ≡ true
    step = (both_parts (not (is_make m) || (f.ino == 0)) _ (both_parts (is_synced c u f.group) _ (both_parts (is_number u.started f.group) _ h).1).1).1

    it : (k : CallSoFar) × ((is_id id k && (is_in k.epoch u.id && (asks_open c p n m f k && is_refused c p u m f (Conflict a b) k))) ≡ true)
    it = some_call (λ k. is_id id k && (is_in k.epoch u.id && (asks_open c p n m f k && is_refused c p u m f (Conflict a b) k))) p.calls step
flags_refuse c p e id n i m f why asc h = refl

-- a record that may follow flags rightly
pub flags_so : (c : Config) (trace : Trace) (p : Past) (r : Record) → Agrees c trace p → may_follow c p r ≡ true → flags_rightly p r ≡ true
flags_so c trace p (says.Look e id n f w result) a h = flags_look c p e id n f w result (a.trees.ascending e) h
flags_so c trace p (says.Grant e id n i m f stamp ss) a h = flags_grant c p e id n i m f stamp ss h
flags_so c trace p (says.Refuse e id n i m f why) a h = flags_refuse c p e id n i m f why (a.trees.ascending e) h
flags_so c trace p r a h = refl
