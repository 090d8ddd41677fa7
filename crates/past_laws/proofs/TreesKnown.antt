-- The versions that were brought to an epoch or published in it, by both formulations.
use Rattle.std.proofs.Common.{◌≡◌, ℕ, ◌==◌, ◌≤◌, Bool, true, false, cond, ◌&&◌, ◌||◌, List, [], ◌∷◌, length, filter, map, Option, Some, None, refl, sym, ap, ◌∙◌, arith}
use Rattle.std.specs.Prelude.{fold, nat_lt}
use Rattle.std.proofs.lemmas.Bool.Decides.{nat_tests}
use Rattle.std.specs.List.{find, list_any, list_all}
use Rattle.std.specs.Option.{option_map}
use Rattle.locus_ids.specs.declared.config.Config.{Config}
use Rattle.locus_ids.specs.declared.sites.Members.{Members}
use Rattle.locus_ids.specs.declared.ids.EpochId.{EpochId}
use Rattle.locus_ids.specs.declared.ids.FileId.{FileId}
use Rattle.locus_ids.specs.declared.ids.Serial.{Serial}
use Rattle.locus_ids.specs.declared.ids.Stamp.{Stamp}
use Rattle.locus_ids.specs.declared.ids.Brought.{Brought}
use Rattle.commit_graph.specs.Versions.{same_file, same_stamp}
use Rattle.trace_book.specs.Same.{same_epoch}
use Rattle.trace_book.specs.declared.record.Record.{Record}
use Rattle.trace_book.specs.declared.record.Record.TheVariants as says
use Rattle.tree_model.specs.declared.copy.HeldCopy.{HeldCopy}
use Rattle.tree_model.specs.Folds.{Trace}
use Rattle.tree_model.specs.Histories.{history}
use Rattle.tree_model.specs.Packs.{has_pack}
use Rattle.tree_model.specs.Same.{same_brought}
use Rattle.tree_model.specs.State.{TreeState, with_brought, with_all, copy_of, is_copy_of, is_brought_below}
use Rattle.tree_model.specs.Tree.{tree_of, next, joined as joined_in, left, with_root, published, released as released_in}
use Rattle.tree_model.specs.Working.{list_of}
use Rattle.promises.specs.of_lawful_trace.Lawful.{MayCome}
use Rattle.promises.specs.Past.{Past, Epoch, Copy, epoch_at, unformed, site_at, stamp_in, first_or, is_named}
use Rattle.promises.specs.Rows.{brought_in, is_there}
use Rattle.promises.specs.After.{after, with_known, with_all_known, with_epoch, is_epoch, is_copy_below, released, answered, is_ender, close_answer}
use Rattle.past_laws.specs.Agreement.{Agrees, ascends, are_packed, speaks_of_sites}
use Rattle.past_laws.proofs.Names.{number_eq, epoch_own, false_true, both, both_parts}
use Rattle.past_laws.proofs.Sites.{of_cluster_there}
use Rattle.past_laws.proofs.TreesAt.{is_formed, at_own, at_other, by_epoch, formed_with, answers_kept, SaveCalls}
use Rattle.past_laws.proofs.TreesCopies.{now_of, root_now}
use Rattle.past_laws.proofs.TreesFolds.{group_is, config_is}
use Rattle.past_laws.proofs.TreesFormed.{is_own, is_other}
use Rattle.past_laws.proofs.TreesHeld.{now_is}
use Rattle.past_laws.proofs.TreesKept.{IsBlind, IsBlindTree, stays}
use Rattle.past_laws.proofs.TreesLists.{any_map, any_both, any_same, filter_one}
use Rattle.past_laws.proofs.TreesOpened.{formed_open}
use Rattle.past_laws.proofs.TreesOpenedSteps.{ends_some}
use Rattle.past_laws.proofs.TreesSeats.{one_seat, rooted_one, AtMostOne}
use Rattle.past_laws.proofs.TreesSorted.{any_brought, any_known, brought_ascends, known_ascends, same_broughts, has_brought}

-- Lists of versions, of one group.

abbrev pub as_brought : Copy → Brought
as_brought v = record { ino = v.file.ino; stamp = v.stamp }

abbrev pub of_group : ℕ → Copy → Bool
of_group group v = v.file.group == group

abbrev pub broughts_in : ℕ → List Copy → List Brought
broughts_in group vs = map as_brought (filter (of_group group) vs)

all_of_group : (group : ℕ) (v : Copy) (vs : List Copy) → of_group group v ≡ true → list_all (is_copy_below v) vs ≡ true → list_all (is_brought_below (as_brought v)) (broughts_in group vs) ≡ true
all_of_group group v [] e h = refl
all_of_group group v (w ∷ ws) e h = at (all_of_group group v ws e parts.1) (of_group group w) refl
  where
    parts : (is_copy_below v w ≡ true) × (list_all (is_copy_below v) ws ≡ true)
    parts = both_parts (is_copy_below v w) (list_all (is_copy_below v) ws) h

    level : (a b : ℕ) (x : Bool) → a ≡ b → (nat_lt a b || ((a == b) && x)) ≡ true → x ≡ true
    level a b true same k = refl
    level a b false same k = grind (arith, nat_tests)

    at : list_all (is_brought_below (as_brought v)) (broughts_in group ws) ≡ true → (b : Bool) → of_group group w ≡ b → list_all (is_brought_below (as_brought v)) (map as_brought (cond b (w ∷ filter (of_group group) ws) (filter (of_group group) ws))) ≡ true
    at later true f = both (is_brought_below (as_brought v) (as_brought w)) (list_all (is_brought_below (as_brought v)) (broughts_in group ws)) (level v.file.group w.file.group (is_brought_below (as_brought v) (as_brought w)) (number_eq v.file.group group e ∙ sym (number_eq w.file.group group f)) parts.0) later
    at later false f = later

pub brought_in_ascends : (group : ℕ) (vs : List Copy) → ascends is_copy_below vs ≡ true → ascends is_brought_below (broughts_in group vs) ≡ true
brought_in_ascends group [] h = refl
brought_in_ascends group (v ∷ vs) h = at (brought_in_ascends group vs parts.1) (of_group group v) refl
  where
    parts : (list_all (is_copy_below v) vs ≡ true) × (ascends is_copy_below vs ≡ true)
    parts = both_parts (list_all (is_copy_below v) vs) (ascends is_copy_below vs) h

    at : ascends is_brought_below (broughts_in group vs) ≡ true → (b : Bool) → of_group group v ≡ b → ascends is_brought_below (map as_brought (cond b (v ∷ filter (of_group group) vs) (filter (of_group group) vs))) ≡ true
    at later true e = both (list_all (is_brought_below (as_brought v)) (broughts_in group vs)) (ascends is_brought_below (broughts_in group vs)) (all_of_group group v vs e parts.0) later
    at later false e = later

-- it is this version, of the group
abbrev pub is_it : ℕ → Brought → Copy → Bool
is_it group x v = of_group group v && same_brought (as_brought v) x

flip : (a b : Bool) → (a && b) ≡ (b && a)
flip true true = refl
flip true false = refl
flip false true = refl
flip false false = refl

pub has_in : (group : ℕ) (x : Brought) (vs : List Copy) → has_brought (broughts_in group vs) x ≡ list_any (is_it group x) vs
has_in group x vs = any_map (λ b. same_brought b x) as_brought (filter (of_group group) vs) ∙ (any_both (λ v. same_brought (as_brought v) x) (of_group group) vs ∙ any_same (λ v. same_brought (as_brought v) x && of_group group v) (is_it group x) (λ v. flip (same_brought (as_brought v) x) (of_group group v)) vs)

-- Many are put in.

pub any_all_known : (q : Copy → Bool) (news vs : List Copy) → list_any q (with_all_known news vs) ≡ (list_any q news || list_any q vs)
any_all_known q [] vs = refl
any_all_known q (v ∷ news) vs = any_all_known q news (with_known v vs) ∙ (ap (λ b. list_any q news || b) (any_known q v vs) ∙ turn (list_any q news) (q v) (list_any q vs))
  where
    turn : (a b d : Bool) → (a || (b || d)) ≡ ((b || a) || d)
    turn true true d = refl
    turn true false d = refl
    turn false true d = refl
    turn false false d = refl

pub all_known_ascends : (news vs : List Copy) → ascends is_copy_below vs ≡ true → ascends is_copy_below (with_all_known news vs) ≡ true
all_known_ascends [] vs h = h
all_known_ascends (v ∷ news) vs h = all_known_ascends news (with_known v vs) (known_ascends v vs h)

abbrev brought_by : HeldCopy → Brought
brought_by c = record { ino = c.ino; stamp = c.now }

any_all : (q : Brought → Bool) (cs : List HeldCopy) (bs : List Brought) → list_any q (with_all cs bs) ≡ (list_any (λ c. q (brought_by c)) cs || list_any q bs)
any_all q [] bs = refl
any_all q (c ∷ cs) bs = any_all q cs (with_brought (brought_by c) bs) ∙ (ap (λ b. list_any (λ d. q (brought_by d)) cs || b) (any_brought q (brought_by c) bs) ∙ turn (list_any (λ d. q (brought_by d)) cs) (q (brought_by c)) (list_any q bs))
  where
    turn : (a b d : Bool) → (a || (b || d)) ≡ ((b || a) || d)
    turn true true d = refl
    turn true false d = refl
    turn false true d = refl
    turn false false d = refl

all_ascends : (cs : List HeldCopy) (bs : List Brought) → ascends is_brought_below bs ≡ true → ascends is_brought_below (with_all cs bs) ≡ true
all_ascends [] bs h = h
all_ascends (c ∷ cs) bs h = all_ascends cs (with_brought (brought_by c) bs) (brought_ascends (brought_by c) bs h)

-- One of a file.

abbrev has_this : Stamp → Option Stamp → Bool
has_this s None = false
has_this s (Some a) = same_stamp a s

any_keyed : {X : Type 0} (key : X → Bool) (val : X → Stamp) (s : Stamp) (xs : List X) → length (filter key xs) ≤ 1 → list_any (λ v. key v && same_stamp (val v) s) xs ≡ has_this s (option_map val (find key xs))
any_keyed {X} key val s xs one = any_same (λ v. key v && same_stamp (val v) s) (λ v. same_stamp (val v) s && key v) (λ v. flip (key v) (same_stamp (val v) s)) xs
    ∙ (sym (any_both (λ v. same_stamp (val v) s) key xs) ∙ (ap (list_any (λ v. same_stamp (val v) s)) (filter_one key xs one) ∙ at (find key xs)))
  where
    or_false : (b : Bool) → (b || false) ≡ b
    or_false true = refl
    or_false false = refl

    at : (o : Option X) → list_any (λ v. same_stamp (val v) s) (list_of o) ≡ has_this s (option_map val o)
    at None = refl
    at (Some v) = or_false (same_stamp (val v) s)

and_assoc : (a b d : Bool) → (a && (b && d)) ≡ ((a && b) && d)
and_assoc true b d = refl
and_assoc false b d = refl

any_in : (group : ℕ) (x : Brought) (vs : List Copy) → length (filter (λ (v : Copy). same_file v.file (record { group = group; ino = x.ino })) vs) ≤ 1 → list_any (is_it group x) vs ≡ has_this x.stamp (stamp_in vs (record { group = group; ino = x.ino }))
any_in group x vs one = any_same (is_it group x) (λ (v : Copy). same_file v.file (record { group = group; ino = x.ino }) && same_stamp v.stamp x.stamp) (λ v. and_assoc (of_group group v) (v.file.ino == x.ino) (same_stamp v.stamp x.stamp)) vs ∙ any_keyed (λ (v : Copy). same_file v.file (record { group = group; ino = x.ino })) (λ (v : Copy). v.stamp) x.stamp vs one

any_at : (site : ℕ) (x : Brought) (cs : List HeldCopy) → AtMostOne site x.ino cs → list_any (λ c. same_brought (brought_by c) x) (filter (λ (c : HeldCopy). c.site == site) cs) ≡ has_this x.stamp (now_of None (copy_of cs site x.ino))
any_at site x cs one = any_both (λ c. same_brought (brought_by c) x) (λ (c : HeldCopy). c.site == site) cs
    ∙ (any_same (λ (c : HeldCopy). same_brought (brought_by c) x && (c.site == site)) (λ (c : HeldCopy). is_copy_of site x.ino c && same_stamp c.now x.stamp) (λ c. flip (same_brought (brought_by c) x) (c.site == site) ∙ and_assoc (c.site == site) (c.ino == x.ino) (same_stamp c.now x.stamp)) cs
    ∙ (any_keyed (is_copy_of site x.ino) (λ (c : HeldCopy). c.now) x.stamp cs one ∙ ap (has_this x.stamp) (at (copy_of cs site x.ino))))
  where
    at : (o : Option HeldCopy) → option_map (λ (c : HeldCopy). c.now) o ≡ now_of None o
    at None = refl
    at (Some c) = refl

none_packed : (c : Config) (site group : ℕ) (x : Brought) (vs : List Copy) → has_pack c group site ≡ false → are_packed c site vs ≡ true → list_any (is_it group x) vs ≡ false
none_packed c site group x [] none h = refl
none_packed c site group x (v ∷ vs) none h = at (none_packed c site group x vs none parts.1) (of_group group v) refl
  where
    parts : (has_pack c v.file.group site ≡ true) × (are_packed c site vs ≡ true)
    parts = both_parts (has_pack c v.file.group site) (are_packed c site vs) h

    at : list_any (is_it group x) vs ≡ false → (b : Bool) → of_group group v ≡ b → ((b && same_brought (as_brought v) x) || list_any (is_it group x) vs) ≡ false
    at later false e = later
    at later true e = false_true (sym none ∙ (ap (λ g. has_pack c g site) (sym (number_eq v.file.group group e)) ∙ parts.0))

-- The steps.

abbrev pub KnownAfter : Config → Record → Trace → Past → EpochId → ℕ → Type 0
KnownAfter c r before p e group = brought_in (epoch_at (after c r p) e) group ≡ (next (history c before) r (tree_of c e group before)).known

still : (c : Config) (r : Record) (before : Trace) (p : Past) → Agrees c before p → (e : EpochId) (group : ℕ) → IsBlind (λ (t : Epoch). brought_in t group) r → IsBlindTree (λ (t : TreeState). t.known) r → KnownAfter c r before p e group
still c r before p k e group blind other = stays (λ (t : Epoch). brought_in t group) (λ (t : TreeState). t.known) c r before p e group blind other (k.trees.known e group)

-- what the tree has ascends too
old_ascends : (c : Config) (before : Trace) (p : Past) → Agrees c before p → (e : EpochId) (group : ℕ) → ascends is_brought_below (tree_of c e group before).known ≡ true
old_ascends c before p k e group = ap (ascends is_brought_below) (sym (k.trees.known e group)) ∙ brought_in_ascends group (epoch_at p e).known (k.trees.ascending e)

-- what a site brings, by both
brings : (c : Config) (before : Trace) (p : Past) → Agrees c before p → (z : ℕ) → is_there p z ≡ true → (e : EpochId) (group : ℕ) (x : Brought) → has_pack c group z ≡ true → list_any (is_it group x) (site_at p z).held ≡ list_any (λ d. same_brought (brought_by d) x) (filter (λ (d : HeldCopy). d.site == z) (with_root (tree_of c e group before) z))
brings c before p k z there e group x pack = any_in group x (site_at p z).held (k.trees.one_copy z f)
    ∙ (ap (has_this x.stamp) (k.sites.held z there f ∙ (sym (now_is c e group before z x.ino) ∙ sym (root_now t z x.ino)))
    ∙ sym (any_at z x (with_root t z) (rooted_one t z z x.ino (one_seat c e group before z x.ino))))
  where
    t : TreeState
    t = tree_of c e group before

    f : FileId
    f = record { group = group; ino = x.ino }

known_join : (c : Config) (before : Trace) (p : Past) (z : ℕ) (a : EpochId) (m : Members) → is_there p z ≡ true → Agrees c before p → (e : EpochId) (group : ℕ) → KnownAfter c (says.Join z a m) before p e group
known_join c before p z a m there k e group = by_epoch (λ x. KnownAfter c (says.Join z a m) before p x group) a e own other
  where
    t : EpochId → TreeState
    t x = tree_of c x group before

    q : Past
    q = with_epoch a m p

    news : List Copy
    news = (site_at p z).held

    new : Epoch → Epoch
    new u = record u { joined = z ∷ u.joined; known = with_all_known news u.known }

    formed : (b : Bool) → is_formed p a ≡ b → list_any (is_epoch a) (cond b p (record p { epochs = record (unformed a) { members = m } ∷ p.epochs })).epochs ≡ true
    formed true h = h
    formed false h = ap (λ b. b || list_any (is_epoch a) p.epochs) (epoch_own a)

    same_known : (x : EpochId) → (epoch_at q x).known ≡ (epoch_at p x).known
    same_known x = formed_with (λ (u : Epoch). u.known) (λ u l. refl) a x m p

    brought : Bool → List Brought
    brought b = cond b (with_all (filter (λ (d : HeldCopy). d.site == z) (with_root (t a) z)) (t a).known) (t a).known

    old_asc : (b : Bool) → ascends is_brought_below (brought b) ≡ true
    old_asc true = all_ascends (filter (λ (d : HeldCopy). d.site == z) (with_root (t a) z)) (t a).known (old_ascends c before p k a group)
    old_asc false = old_ascends c before p k a group

    has_same : (x : Brought) (b : Bool) → has_pack c group z ≡ b → has_brought (broughts_in group (with_all_known news (epoch_at p a).known)) x ≡ has_brought (brought b) x
    has_same x b h = has_in group x (with_all_known news (epoch_at p a).known) ∙ (any_all_known (is_it group x) news (epoch_at p a).known ∙ (ap (λ y. list_any (is_it group x) news || y) (sym (has_in group x (epoch_at p a).known) ∙ ap (λ bs. has_brought bs x) (k.trees.known a group)) ∙ at b h))
      where
        at : (b : Bool) → has_pack c group z ≡ b → (list_any (is_it group x) news || has_brought (t a).known x) ≡ has_brought (brought b) x
        at true h = ap (λ y. y || has_brought (t a).known x) (brings c before p k z there a group x h) ∙ sym (any_all (λ y. same_brought y x) (filter (λ (d : HeldCopy). d.site == z) (with_root (t a) z)) (t a).known)
        at false h = ap (λ y. y || has_brought (t a).known x) (none_packed c z group x news h (k.trees.packed z))

    own : KnownAfter c (says.Join z a m) before p a group
    own = ap (λ (u : Epoch). brought_in u group) (at_own new (λ u. refl) q a (formed (is_formed p a) refl))
        ∙ (ap (λ vs. broughts_in group (with_all_known news vs)) (same_known a)
        ∙ (same_broughts (broughts_in group (with_all_known news (epoch_at p a).known)) (brought (has_pack c group z)) (brought_in_ascends group (with_all_known news (epoch_at p a).known) (all_known_ascends news (epoch_at p a).known (k.trees.ascending a))) (old_asc (has_pack c group z)) (λ x. has_same x (has_pack c group z) refl)
        ∙ (ap (λ d. brought (has_pack d group z)) (sym (config_is c a group before)) ∙ (ap (λ g. brought (has_pack (t a).config g z)) (sym (group_is c a group before))
        ∙ sym (ap (λ b. (cond b (joined_in z m (t a)) (left z (t a))).known) (is_own c a group before))))))

    other : same_epoch e a ≡ false → KnownAfter c (says.Join z a m) before p e group
    other h = ap (λ (u : Epoch). brought_in u group) (at_other new (λ u. refl) q a e h) ∙ (ap (broughts_in group) (same_known e)
        ∙ (k.trees.known e group
        ∙ sym (ap (λ b. (cond b (joined_in z m (t e)) (left z (t e))).known) (is_other c a e group before h))))

known_release : (c : Config) (before : Trace) (p : Past) (a : EpochId) (i : Serial) (f : FileId) (stamp : Option Stamp) → MayCome c before (says.Release a i f stamp) → Agrees c before p → (e : EpochId) (group : ℕ) → KnownAfter c (says.Release a i f stamp) before p e group
known_release c before p a i f stamp may k e group = by_epoch (λ x. KnownAfter c (says.Release a i f stamp) before p x group) a e own other
  where
    t : EpochId → TreeState
    t x = tree_of c x group before

    q : Past
    q = fold (λ old x. answered (is_ender (epoch_at p a) i) (close_answer stamp x) old) p (filter (is_named i) (epoch_at p a).opened)

    calls : SaveCalls p q
    calls = answers_kept (is_ender (epoch_at p a) i) (close_answer stamp) (filter (is_named i) (epoch_at p a).opened) p

    formed : is_formed q a ≡ true
    formed = ap (list_any (is_epoch a)) calls.epochs ∙ formed_open c before p k a f.group i (ends_some (history c before) (tree_of c a f.group before) i f stamp may.gives)

    same : (x : EpochId) → epoch_at q x ≡ epoch_at p x
    same x = ap (first_or (unformed x) (is_epoch x)) calls.epochs

    known : List Copy
    known = (epoch_at p a).known

    news : Option Stamp → List Copy
    news s = map (λ y. record { file = f; stamp = y }) (list_of s)

    old : Option Stamp → Bool → List Brought
    old s b = cond b (published f s (t a).known) (t a).known

    old_asc : (s : Option Stamp) (b : Bool) → ascends is_brought_below (old s b) ≡ true
    old_asc s false = old_ascends c before p k a group
    old_asc None true = old_ascends c before p k a group
    old_asc (Some y) true = brought_ascends (record { ino = f.ino; stamp = y }) (t a).known (old_ascends c before p k a group)

    has_same : (s : Option Stamp) (x : Brought) (b : Bool) → (f.group == group) ≡ b → has_brought (broughts_in group (with_all_known (news s) known)) x ≡ has_brought (old s b) x
    has_same s x b h = has_in group x (with_all_known (news s) known) ∙ (any_all_known (is_it group x) (news s) known ∙ (ap (λ y. list_any (is_it group x) (news s) || y) (sym (has_in group x known) ∙ ap (λ bs. has_brought bs x) (k.trees.known a group)) ∙ at s b h))
      where
        or_false : (b : Bool) → (b || false) ≡ b
        or_false true = refl
        or_false false = refl

        at : (s : Option Stamp) (b : Bool) → (f.group == group) ≡ b → (list_any (is_it group x) (news s) || has_brought (t a).known x) ≡ has_brought (old s b) x
        at None true h = refl
        at None false h = refl
        at (Some y) true h = ap (λ z. z || has_brought (t a).known x) (or_false ((f.group == group) && same_brought (record { ino = f.ino; stamp = y }) x) ∙ ap (λ b. b && same_brought (record { ino = f.ino; stamp = y }) x) h) ∙ sym (any_brought (λ b. same_brought b x) (record { ino = f.ino; stamp = y }) (t a).known)
        at (Some y) false h = ap (λ z. z || has_brought (t a).known x) (or_false ((f.group == group) && same_brought (record { ino = f.ino; stamp = y }) x) ∙ ap (λ b. b && same_brought (record { ino = f.ino; stamp = y }) x) h)

    becomes : (b : Bool) → old stamp b ≡ (cond b (released_in i f stamp (t a)) (t a)).known
    becomes true = refl
    becomes false = refl

    own : KnownAfter c (says.Release a i f stamp) before p a group
    own = ap (λ (u : Epoch). brought_in u group) (at_own (released i f stamp) (λ u. refl) q a formed ∙ ap (released i f stamp) (same a))
        ∙ (same_broughts (broughts_in group (with_all_known (news stamp) known)) (old stamp (f.group == group)) (brought_in_ascends group (with_all_known (news stamp) known) (all_known_ascends (news stamp) known (k.trees.ascending a))) (old_asc stamp (f.group == group)) (λ x. has_same stamp x (f.group == group) refl)
        ∙ (becomes (f.group == group)
        ∙ sym (ap (λ b. (cond (b && (f.group == (t a).group)) (released_in i f stamp (t a)) (t a)).known) (is_own c a group before) ∙ ap (λ n. (cond (f.group == n) (released_in i f stamp (t a)) (t a)).known) (group_is c a group before))))

    other : same_epoch e a ≡ false → KnownAfter c (says.Release a i f stamp) before p e group
    other h = ap (λ (u : Epoch). brought_in u group) (at_other (released i f stamp) (λ u. refl) q a e h ∙ same e)
        ∙ (k.trees.known e group
        ∙ sym (ap (λ b. (cond (b && (f.group == (t e).group)) (released_in i f stamp (t e)) (t e)).known) (is_other c a e group before h)))

pub known_step : (c : Config) (r : Record) (before : Trace) (p : Past) → MayCome c before r → speaks_of_sites c r ≡ true → Agrees c before p → (e : EpochId) (group : ℕ) → KnownAfter c r before p e group
known_step c (says.Up s b) before p may speaks k e group = still c (says.Up s b) before p k e group tt (λ t ns. refl)
known_step c (says.Stopped s w) before p may speaks k e group = still c (says.Stopped s w) before p k e group (λ t ls. refl) (λ t ns. refl)
known_step c (says.Leave s a) before p may speaks k e group = still c (says.Leave s a) before p k e group (λ t ls. refl) (λ t ns. refl)
known_step c (says.Join s a m) before p may speaks k e group = known_join c before p s a m (of_cluster_there c p.sites s k.sites.numbers speaks) k e group
known_step c (says.Start a g bs) before p may speaks k e group = still c (says.Start a g bs) before p k e group (λ t gs. refl) (λ t. refl)
known_step c (says.Accept s q id words) before p may speaks k e group = still c (says.Accept s q id words) before p k e group (λ t w. refl) (λ t cs. refl)
known_step c (says.Look a id n f w result) before p may speaks k e group = still c (says.Look a id n f w result) before p k e group tt tt
known_step c (says.Grant a id n i m f stamp ss) before p may speaks k e group = still c (says.Grant a id n i m f stamp ss) before p k e group (λ t gs xs. refl) (λ t gs xs. refl)
known_step c (says.Refuse a id n i m f why) before p may speaks k e group = still c (says.Refuse a id n i m f why) before p k e group (λ t ms. refl) (λ t ms. refl)
known_step c (says.Act a i n o result) before p may speaks k e group = still c (says.Act a i n o result) before p k e group (λ t xs ms. refl) (λ t xs ms. refl)
known_step c (says.Commit f s stamp ps content) before p may speaks k e group = still c (says.Commit f s stamp ps content) before p k e group (λ t xs. refl) (λ t cs xs. refl)
known_step c (says.Release a i f stamp) before p may speaks k e group = known_release c before p a i f stamp may k e group
known_step c (says.Adopt f s stamp) before p may speaks k e group = still c (says.Adopt f s stamp) before p k e group tt (λ t cs. refl)
known_step c (says.Answer s q id r) before p may speaks k e group = still c (says.Answer s q id r) before p k e group (λ t w fs. refl) tt
known_step c (says.Packet n from to kind) before p may speaks k e group = still c (says.Packet n from to kind) before p k e group tt tt
known_step c says.Void before p may speaks k e group = still c says.Void before p k e group tt tt
known_step c says.Budget before p may speaks k e group = still c says.Budget before p k e group tt tt
