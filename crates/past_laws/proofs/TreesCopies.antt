-- What the tree of an epoch and a group has of each site: its version now, its version in the epoch, and one entry for each
-- file.
use Rattle.std.proofs.Common.{◌≡◌, ℕ, ◌==◌, Bool, true, false, cond, ◌&&◌, List, [], ◌∷◌, ◌++◌, map, Option, Some, None, refl, sym, ◌∙◌, ap}
use Rattle.std.specs.Option.{option_map, option_or, is_none}
use Rattle.std.proofs.lemmas.List.Folds.{find-append}
use Rattle.locus_ids.specs.declared.sites.Members.{Members}
use Rattle.locus_ids.specs.declared.ids.Stamp.{Stamp}
use Rattle.tree_model.specs.declared.copy.HeldCopy.{HeldCopy}
use Rattle.tree_model.specs.Histories.{formatted, format_stamp}
use Rattle.tree_model.specs.Packs.{has_pack}
use Rattle.tree_model.specs.State.{TreeState, is_copy_of, copy_of, held_of, with_copy}
use Rattle.tree_model.specs.Tree.{joined, with_root, entered}
use Rattle.past_laws.proofs.Names.{number_eq, number_own, false_true, both, both_parts}
use Rattle.past_laws.proofs.TreesLists.{found_passes, number_test}

-- Lists of copies.

abbrev pub now_of : Option Stamp → Option HeldCopy → Option Stamp
now_of other None = other
now_of other (Some c) = Some c.now

abbrev pub root : ℕ → HeldCopy
root z = record { site = z; ino = 1; now = format_stamp; held = None }

pub entered_is : (z site ino : ℕ) (c : HeldCopy) → is_copy_of site ino (entered z c) ≡ is_copy_of site ino c
entered_is z site ino c = at (c.site == z)
  where
    at : (b : Bool) → is_copy_of site ino (cond b (record c { held = Some c.now }) c) ≡ is_copy_of site ino c
    at true = refl
    at false = refl

find_entered : (z site ino : ℕ) (cs : List HeldCopy) → copy_of (map (entered z) cs) site ino ≡ option_map (entered z) (copy_of cs site ino)
find_entered z site ino [] = refl
find_entered z site ino (c ∷ cs) = ap (λ b. cond b (Some (entered z c)) (copy_of (map (entered z) cs) site ino)) (entered_is z site ino c) ∙ at (find_entered z site ino cs) (is_copy_of site ino c)
  where
    at : copy_of (map (entered z) cs) site ino ≡ option_map (entered z) (copy_of cs site ino) → (b : Bool) → cond b (Some (entered z c)) (copy_of (map (entered z) cs) site ino) ≡ option_map (entered z) (cond b (Some c) (copy_of cs site ino))
    at later true = refl
    at later false = later

-- a copy of this site and inode
pub key_is : (a b : HeldCopy) (site ino : ℕ) → is_copy_of a.site a.ino b ≡ true → is_copy_of site ino b ≡ is_copy_of site ino a
key_is a b site ino h = (let parts : ((b.site == a.site) ≡ true) × ((b.ino == a.ino) ≡ true) = both_parts (b.site == a.site) (b.ino == a.ino) h
    in ap (λ n. (n == site) && (b.ino == ino)) (number_eq b.site a.site parts.0) ∙ ap (λ n. (a.site == site) && (n == ino)) (number_eq b.ino a.ino parts.1))

pub key_same : (a b : HeldCopy) (site ino : ℕ) → is_copy_of site ino a ≡ true → is_copy_of site ino b ≡ true → is_copy_of a.site a.ino b ≡ true
key_same a b site ino h j = (let at_a : ((a.site == site) ≡ true) × ((a.ino == ino) ≡ true) = both_parts (a.site == site) (a.ino == ino) h
    in let at_b : ((b.site == site) ≡ true) × ((b.ino == ino) ≡ true) = both_parts (b.site == site) (b.ino == ino) j
    in both (b.site == a.site) (b.ino == a.ino) (number_test b.site a.site (number_eq b.site site at_b.0 ∙ sym (number_eq a.site site at_a.0))) (number_test b.ino a.ino (number_eq b.ino ino at_b.1 ∙ sym (number_eq a.ino ino at_a.1))))

pub find_put : (new : HeldCopy) (site ino : ℕ) (cs : List HeldCopy) → copy_of (with_copy new cs) site ino ≡ cond (is_copy_of site ino new) (Some new) (copy_of cs site ino)
find_put new site ino [] = refl
find_put new site ino (c ∷ cs) = at (find_put new site ino cs) (is_copy_of new.site new.ino c) (is_copy_of site ino c) (is_copy_of site ino new) refl refl refl
  where
    at : copy_of (with_copy new cs) site ino ≡ cond (is_copy_of site ino new) (Some new) (copy_of cs site ino) → (a b d : Bool) → is_copy_of new.site new.ino c ≡ a → is_copy_of site ino c ≡ b → is_copy_of site ino new ≡ d → copy_of (cond a (new ∷ cs) (c ∷ with_copy new cs)) site ino ≡ cond d (Some new) (cond b (Some c) (copy_of cs site ino))
    at later true b true e f g = ap (λ x. cond x (Some new) (copy_of cs site ino)) g
    at later true b false e f g = ap (λ x. cond x (Some new) (copy_of cs site ino)) g ∙ ap (λ x. cond x (Some c) (copy_of cs site ino)) (sym g ∙ (sym (key_is new c site ino e) ∙ f))
    at later false true true e f g = false_true (sym e ∙ key_same new c site ino g f)
    at later false true false e f g = ap (λ x. cond x (Some c) (copy_of (with_copy new cs) site ino)) f
    at later false false d e f g = ap (λ x. cond x (Some c) (copy_of (with_copy new cs) site ino)) f ∙ (later ∙ ap (λ x. cond x (Some new) (copy_of cs site ino)) g)

-- Joins.

-- what is found where a root is put in
rooted : (t : TreeState) (z site ino : ℕ) (b : Bool) → copy_of (cond b (t.copies ++ root z ∷ []) t.copies) site ino ≡ option_or (copy_of t.copies site ino) (cond (b && is_copy_of site ino (root z)) (Some (root z)) None)
rooted t z site ino true = find-append (is_copy_of site ino) t.copies (root z ∷ [])
rooted t z site ino false = at (copy_of t.copies site ino)
  where
    at : (o : Option HeldCopy) → o ≡ option_or o None
    at None = refl
    at (Some c) = refl

or_none : {X : Type 0} (o : Option X) → option_or o None ≡ o
or_none None = refl
or_none (Some x) = refl

-- another site joins
pub other_joins : (t : TreeState) (z : ℕ) (m : Members) (site ino : ℕ) → (z == site) ≡ false → copy_of (joined z m t).copies site ino ≡ copy_of t.copies site ino
other_joins t z m site ino ne = find_entered z site ino (with_root t z)
    ∙ (ap (option_map (entered z)) (rooted t z site ino (has_pack t.config t.group z && is_none (copy_of t.copies z 1)) ∙ (ap (λ x. option_or (copy_of t.copies site ino) (cond x (Some (root z)) None)) (no_root (has_pack t.config t.group z && is_none (copy_of t.copies z 1))) ∙ or_none (copy_of t.copies site ino)))
    ∙ at (copy_of t.copies site ino) refl)
  where
    no_root : (b : Bool) → (b && ((z == site) && (1 == ino))) ≡ false
    no_root true = ap (λ x. x && (1 == ino)) ne
    no_root false = refl

    apart : (c : HeldCopy) → is_copy_of site ino c ≡ true → (b : Bool) → (c.site == z) ≡ b → (c.site == z) ≡ false
    apart c h false e = e
    apart c h true e = false_true (sym ne ∙ number_test z site (sym (number_eq c.site z e) ∙ number_eq c.site site (both_parts (c.site == site) (c.ino == ino) h).0))

    at : (o : Option HeldCopy) → copy_of t.copies site ino ≡ o → option_map (entered z) o ≡ o
    at None e = refl
    at (Some c) e = ap (λ b. Some (cond b (record c { held = Some c.now }) c)) (apart c (found_passes (is_copy_of site ino) t.copies c e) (c.site == z) refl)

pub turned : (a b : ℕ) → (a == b) ≡ (b == a)
turned a b = at (a == b) (b == a) refl refl
  where
    at : (x y : Bool) → (a == b) ≡ x → (b == a) ≡ y → x ≡ y
    at true true e f = refl
    at false false e f = refl
    at true false e f = false_true (sym f ∙ number_test b a (sym (number_eq a b e)))
    at false true e f = false_true (sym e ∙ number_test a b (sym (number_eq b a f)))

-- what a site has where a root is put in
pub root_now : (t : TreeState) (z : ℕ) (ino : ℕ) → now_of None (copy_of (with_root t z) z ino) ≡ now_of (formatted t.config z (record { group = t.group; ino = ino })) (copy_of t.copies z ino)
root_now t z ino = ap (λ o. now_of None o) (rooted t z z ino (has_pack t.config t.group z && is_none (copy_of t.copies z 1)))
    ∙ at (copy_of t.copies z ino) refl
  where
    at_one : (b : Bool) → (ino == 1) ≡ b → copy_of t.copies z ino ≡ None → (d : Bool) → has_pack t.config t.group z ≡ d → now_of None (option_or None (cond ((d && is_none (copy_of t.copies z 1)) && ((z == z) && (1 == ino))) (Some (root z)) None)) ≡ cond ((ino == 1) && d) (Some format_stamp) None
    at_one true e none true f = ap (λ o. now_of None (option_or None (cond ((true && is_none o) && ((z == z) && (1 == ino))) (Some (root z)) None))) (ap (λ n. copy_of t.copies z n) (sym (number_eq ino 1 e)) ∙ none)
        ∙ (ap (λ b. now_of None (option_or None (cond (b && (1 == ino)) (Some (root z)) None))) (number_own z)
        ∙ (ap (λ b. now_of None (option_or None (cond b (Some (root z)) None))) (turned 1 ino ∙ e)
        ∙ ap (λ b. cond (b && true) (Some format_stamp) None) (sym e)))
    at_one false e none true f = ap (λ b. now_of None (option_or None (cond (is_none (copy_of t.copies z 1) && ((z == z) && b)) (Some (root z)) None))) (turned 1 ino ∙ e)
        ∙ (ap (λ b. now_of None (option_or None (cond b (Some (root z)) None))) (nothing (is_none (copy_of t.copies z 1)) (z == z))
        ∙ ap (λ b. cond (b && true) (Some format_stamp) None) (sym e))
      where
        nothing : (a b : Bool) → (a && (b && false)) ≡ false
        nothing true true = refl
        nothing true false = refl
        nothing false b = refl
    at_one true e none false f = sym (ap (λ b. cond (b && false) (Some format_stamp) None) e)
    at_one false e none false f = sym (ap (λ b. cond (b && false) (Some format_stamp) None) e)

    at : (o : Option HeldCopy) → copy_of t.copies z ino ≡ o → now_of None (option_or o (cond ((has_pack t.config t.group z && is_none (copy_of t.copies z 1)) && is_copy_of z ino (root z)) (Some (root z)) None)) ≡ now_of (formatted t.config z (record { group = t.group; ino = ino })) o
    at (Some c) e = refl
    at None e = at_one (ino == 1) refl e (has_pack t.config t.group z) refl

-- a site that joins has in the epoch what it has now
pub own_joins : (t : TreeState) (z : ℕ) (m : Members) (ino : ℕ) → held_of (copy_of (joined z m t).copies z ino) ≡ now_of (formatted t.config z (record { group = t.group; ino = ino })) (copy_of t.copies z ino)
own_joins t z m ino = ap held_of (find_entered z z ino (with_root t z)) ∙ (held_now (copy_of (with_root t z) z ino) refl ∙ root_now t z ino)
  where
    held_now : (o : Option HeldCopy) → copy_of (with_root t z) z ino ≡ o → held_of (option_map (entered z) o) ≡ now_of None o
    held_now None e = refl
    held_now (Some c) e = ap (λ b. held_of (Some (cond b (record c { held = Some c.now }) c))) (both_parts (c.site == z) (c.ino == ino) (found_passes (is_copy_of z ino) (with_root t z) c e)).0

-- a site that joins has what it had
pub now_joins : (t : TreeState) (z : ℕ) (m : Members) (site ino : ℕ) → now_of (formatted t.config site (record { group = t.group; ino = ino })) (copy_of (joined z m t).copies site ino) ≡ now_of (formatted t.config site (record { group = t.group; ino = ino })) (copy_of t.copies site ino)
now_joins t z m site ino = ap (now_of fmt) (find_entered z site ino (with_root t z))
    ∙ (still (copy_of (with_root t z) site ino)
    ∙ (ap (now_of fmt) (rooted t z site ino (has_pack t.config t.group z && is_none (copy_of t.copies z 1)))
    ∙ at (copy_of t.copies site ino) (has_pack t.config t.group z && is_none (copy_of t.copies z 1)) refl))
  where
    fmt : Option Stamp
    fmt = formatted t.config site (record { group = t.group; ino = ino })

    still : (o : Option HeldCopy) → now_of fmt (option_map (entered z) o) ≡ now_of fmt o
    still None = refl
    still (Some c) = now_same (c.site == z)
      where
        now_same : (b : Bool) → now_of fmt (Some (cond b (record c { held = Some c.now }) c)) ≡ now_of fmt (Some c)
        now_same true = refl
        now_same false = refl

    at : (o : Option HeldCopy) (b : Bool) → (has_pack t.config t.group z && is_none (copy_of t.copies z 1)) ≡ b → now_of fmt (option_or o (cond (b && is_copy_of site ino (root z)) (Some (root z)) None)) ≡ now_of fmt o
    at (Some c) b e = refl
    at None false e = refl
    at None true e = own ((z == site) && (1 == ino)) refl
      where
        own : (d : Bool) → ((z == site) && (1 == ino)) ≡ d → now_of fmt (option_or None (cond d (Some (root z)) None)) ≡ fmt
        own false f = refl
        own true f = (let parts : ((z == site) ≡ true) × ((1 == ino) ≡ true) = both_parts (z == site) (1 == ino) f
            in sym (ap (λ b. cond (b && has_pack t.config t.group site) (Some format_stamp) None) (turned ino 1 ∙ parts.1) ∙ ap (λ b. cond b (Some format_stamp) None) (ap (has_pack t.config t.group) (sym (number_eq z site parts.0)) ∙ (both_parts (has_pack t.config t.group z) (is_none (copy_of t.copies z 1)) e).0)))
