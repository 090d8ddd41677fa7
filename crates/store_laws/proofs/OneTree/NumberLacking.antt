-- Where all numbers of a site are used, the tree counts none that is left: each is of a file that the site has, or of a make that is
-- underway, of a call of its own.
use Rattle.std.proofs.Common.{◌≡◌, ℕ, zero, suc, ◌+◌, ◌-◌, ◌*◌, ◌<◌, ◌≤◌, Bool, true, false, cond, List, [], ◌∷◌, length, Option, Some, None, nat_lt, nat_le, refl, sym, ◌∙◌, ap, subst, arith, ◌⊎◌, inl, inr}
use Rattle.std.proofs.lemmas.Bool.Decides.{nat_tests}
use Rattle.std.specs.List.{find}
use Rattle.std.specs.Option.{is_some, option_or}
use Rattle.role_steps.proofs.of_plain_facts.Numbers.{equal_self}
use Rattle.role_steps.proofs.of_plain_facts.Options.{none_some, some_same}
use Rattle.role_steps.proofs.of_plain_facts.Tests.{and_first, true_false}
use Rattle.locus_ids.specs.Sites.{has}
use Rattle.locus_ids.specs.declared.config.Config.{Config}
use Rattle.locus_ids.specs.declared.ids.CallId.{CallId}
use Rattle.locus_ids.specs.declared.ids.EpochId.{EpochId}
use Rattle.locus_ids.specs.declared.ids.FileId.{FileId}
use Rattle.locus_ids.specs.declared.ids.Kind.{Kind}
use Rattle.locus_ids.specs.declared.ids.Serial.{Serial}
use Rattle.locus_ids.specs.declared.ids.Stamp.{Stamp}
use Rattle.locus_ids.specs.declared.sites.Members.{Members}
use Rattle.locus_ids.specs.declared.sites.Sites.{Sites}
use Rattle.locus_ids.specs.Sizes.{site_inodes, sites_max}
use Rattle.the_run.specs.Kept.{Among}
use Rattle.the_run.specs.Worlds.{Line}
use Rattle.tree_model.specs.Epochs.{members_of}
use Rattle.tree_model.specs.Opening.{is_site, lacks_numbers, makes_at, making_site, numbers_used}
use Rattle.tree_model.specs.Packs.{all_sites, has_pack, is_member_of, is_place, least_site, making_site_in, sync_site, that_passes}
use Rattle.tree_model.specs.State.{TreeState, held_at}
use Rattle.tree_model.specs.Tree.{tree_of}
use Rattle.tree_laws.specs.Following.{IsFollowed}
use Rattle.tree_laws.specs.Instances.{IsFull, IsUsed}
use Rattle.tree_laws.specs.Packets.{MakesNow, file_in}
use Rattle.tree_laws.specs.Past.{WasBegun}
use Rattle.tree_laws.specs.Printed.{entries}
use Rattle.tree_laws.proofs.Kinship.{tree_group_is}
use Rattle.tree_laws.proofs.Rows.{followed_rows}
use Rattle.row_laws.proofs.CallRows.Keeping.{filter_keeps}
use Rattle.tree_laws.proofs.Orders.Joining.{Whole, started_all}
use Rattle.tree_laws.proofs.Orders.Knowing.{tree_config}
use Rattle.store_laws.specs.Holdings.Below.{LawsBelow}
use Rattle.store_laws.proofs.Begun.{begun_one}
use Rattle.store_laws.proofs.Ranges.{given_in, place_packed}
use Rattle.tree_laws.proofs.Syncs.Merging.{tree_members}
use Rattle.store_laws.proofs.OneTree.MakeCallOnce.{calls_make_once}
use Rattle.store_laws.proofs.OneTree.NumberCounted.{counted}
use Rattle.store_laws.proofs.OneTree.NumberHeld.{HasSome, root_there}
use Rattle.store_laws.proofs.OneTree.NumberMade.{WasMadeAt, made_begun, made_for, reserved_made}
use Rattle.store_laws.proofs.OneTree.NumberSaid.{making_said}
use Rattle.store_laws.proofs.OneTree.NumberUnderway.{Making, underway}

-- ---- the site of a make ----

-- what it has passes
abbrev Passes : (ℕ → Bool) → Option ℕ → Type 0
Passes p o = (s : ℕ) → o ≡ Some s → p s ≡ true

passes_or : (p : ℕ → Bool) (a b : Option ℕ) → Passes p a → Passes p b → Passes p (option_or a b)
passes_or p (Some x) b first later = first
passes_or p None b first later = later

passes_that : (p : ℕ → Bool) (o : Option ℕ) → Passes p (that_passes p o)
passes_that p None s e = absurd (none_some s e)
passes_that p (Some x) s e = at (p x) refl e
  where
    at : (b : Bool) → p x ≡ b → cond b (Some x) None ≡ Some s → p s ≡ true
    at true k e = subst (λ (y : ℕ). p y ≡ true) (some_same x s e) k
    at false k e = absurd (none_some s e)

passes_found : (p : ℕ → Bool) (xs : List ℕ) → Passes p (find p xs)
passes_found p [] s e = absurd (none_some s e)
passes_found p (x ∷ xs) s e = at (p x) refl e (passes_found p xs s)
  where
    at : (b : Bool) → p x ≡ b → cond b (Some x) (find p xs) ≡ Some s → (find p xs ≡ Some s → p s ≡ true) → p s ≡ true
    at true k e later = subst (λ (y : ℕ). p y ≡ true) (some_same x s e) k
    at false k e later = later e

-- it is a member
making_member : (c : Config) (group : ℕ) (members : Option Members) (own : ℕ) (set : Sites) (ss : ℕ) → making_site_in c group members own set ≡ Some ss → is_member_of members ss ≡ true
making_member c group members own set ss at = and_first (is_member_of members ss) (has set ss) (passes_or p (that_passes p (Some own)) (option_or (that_passes p (sync_site c group members)) (least_site p)) (passes_that p (Some own))
    (passes_or p (that_passes p (sync_site c group members)) (least_site p) (passes_that p (sync_site c group members)) (passes_found p all_sites)) ss at)
  where
    p : ℕ → Bool
    p = is_place members set

-- and no site 0 is one
above_zero : (members : Option Members) (ss : ℕ) → is_member_of members ss ≡ true → 1 ≤ ss
above_zero None ss e = absurd (true_false (sym e))
above_zero (Some m) zero e = absurd (true_false (sym e))
above_zero (Some m) (suc s) e = omega arith

-- ---- the count ----

module _ (c : Config) (trace : List Line) (followed : IsFollowed c trace) (laws : LawsBelow c trace) (e : EpochId) (ss : ℕ) (i : Serial) (group : ℕ) (set : Sites) (k : Kind) (now : MakesNow c trace e ss i group set k) (full : IsFull c trace e ss group) where
  abbrev t : TreeState
  t = tree_of c e group (entries trace)

  -- the call makes the file of this number at the site
  abbrev IsOf : ℕ → CallId → Type 0
  IsOf n d = (j : Serial) × WasMadeAt c trace e ss j (file_in group n) d

  one_number : (a b : ℕ) (d : CallId) → IsOf a d → IsOf b d → a ≡ b
  one_number a b d x y = ap (λ (f : FileId). f.ino) (begun_one c trace followed e x.0 ss ss (file_in group a) (file_in group b) (made_begun c trace e ss x.0 (file_in group a) d x.1)
      (subst (λ (j : Serial). WasBegun trace ss e j (file_in group b)) (sym same) (made_begun c trace e ss y.0 (file_in group b) d y.1))).1
    where
      same : x.0 ≡ y.0
      same = calls_make_once c trace followed e d x.0 y.0 (made_for c trace e ss x.0 (file_in group a) d x.1) (made_for c trace e ss y.0 (file_in group b) d y.1)

  members : is_member_of (members_of (entries trace) e) ss ≡ true
  members = making_member c group (members_of (entries trace) e) now.call.site set ss now.at

  low : 1 ≤ ss
  low = above_zero (members_of (entries trace) e) ss members

  -- the site has the root where its number is the root's
  root : ss ≡ 1 → HasSome c trace e ss (file_in group 1)
  root one = root_there c trace followed laws e group ss pack (whole.joined ss low few (subst (λ (o : Option Members). is_member_of o ss ≡ true) whole.are members) pack)
    where
      few : ss ≤ sites_max
      few = omega (arith, one)

      whole : Whole c (entries trace) e group
      whole = started_all c (entries trace) (followed_rows c trace followed) e group now.started

      pack : has_pack c group ss ≡ true
      pack = place_packed c group (members_of (entries trace) e) now.call.site set ss now.good now.at low few

  abbrev Counts : ℕ → Type 0
  Counts n = (is_some (held_at t ss n) ≡ true) ⊎ ((d : CallId) × IsOf n d × Among d (makes_at t ss))

  held_counts : (n : ℕ) → HasSome c trace e ss (file_in group n) → Counts n
  held_counts n w = inl (ap (λ (o : Option Stamp). is_some o) w.1)

  made_counts : (n : ℕ) (d : CallId) → IsOf n d → Making c trace e ss (file_in group n) d → Counts n
  made_counts n d is w = inr (d, is, filter_keeps (λ call. is_site (making_site t call) ss) t.makes d w.among (ap (λ (o : Option ℕ). is_site o ss) place ∙ equal_self ss))
    where
      place : making_site t d ≡ Some ss
      place = ap (λ (s : Sites). making_site_in t.config t.group t.members d.site s) (making_said c trace e d group ∙ sym w.said)
          ∙ (ap (λ (o : Option Members). making_site_in t.config t.group o d.site w.set) (tree_members c e group (entries trace))
          ∙ (ap (λ (g : ℕ). making_site_in t.config g (members_of (entries trace) e) d.site w.set) (tree_group_is c e group (entries trace))
          ∙ (ap (λ (z : Config). making_site_in z group (members_of (entries trace) e) d.site w.set) (tree_config c e group (entries trace)) ∙ w.at)))

  begun_counts : (n : ℕ) (j : Serial) (d : CallId) → WasMadeAt c trace e ss j (file_in group n) d → Counts n
  begun_counts n j d made = over (underway c trace followed laws e ss j (file_in group n) d made)
    where
      over : HasSome c trace e ss (file_in group n) ⊎ Making c trace e ss (file_in group n) d → Counts n
      over (inl w) = held_counts n w
      over (inr w) = made_counts n d (j, made) w

  used_counts : (n : ℕ) → IsUsed c trace e ss (file_in group n) → Counts n
  used_counts n (inl w) = held_counts n w
  used_counts n (inr w) = (let m = reserved_made c trace followed e ss w.0 (file_in group n) w.1 in begun_counts n w.0 m.0 m.1)

  each_counts : (n : ℕ) → site_inodes * (ss - 1) + 1 ≤ n → n < site_inodes * (ss - 1) + 1 + site_inodes → Counts n
  each_counts n above below = at (nat_lt 1 n) refl
    where
      more : nat_lt 1 n ≡ true → 1 < n
      more e = grind (arith, nat_tests)

      least : nat_lt 1 n ≡ false → n ≤ 1
      least e = grind (arith, nat_tests)

      at : (b : Bool) → nat_lt 1 n ≡ b → Counts n
      at true q = used_counts n (full (file_in group n) refl (given_in ss n low above below (more q)))
      at false q = (let small : n ≤ 1 = least q in let first : n ≡ 1 = omega (arith, small, above) in let one : ss ≡ 1 = omega (arith, small, above, low) in subst (λ (m : ℕ). Counts m) (sym first) (held_counts 1 (root one)))

  pub full_lacks : lacks_numbers t (Some ss) ≡ true
  full_lacks = enough (numbers_used t ss + length (makes_at t ss)) (counted (λ n. is_some (held_at t ss n)) IsOf one_number site_inodes (site_inodes * (ss - 1) + 1) (makes_at t ss) each_counts)
    where
      enough : (m : ℕ) → site_inodes ≤ m → nat_le site_inodes m ≡ true
      enough m h = grind (arith, nat_tests)
