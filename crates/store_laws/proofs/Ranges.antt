-- The range of numbers that a site may give to new files, and the number that it gives next.
use Rattle.std.proofs.Common.{◌≡◌, ℕ, zero, suc, ◌+◌, ◌-◌, ◌*◌, ◌<◌, ◌≤◌, ◌==◌, Bool, true, false, not, cond, ◌&&◌, ◌||◌, List, [], ◌∷◌, Option, Some, None, refl, sym, ◌∙◌, ap, subst, arith}
use Rattle.std.specs.Prelude.{nat_lt, nat_le}
use Rattle.std.specs.List.{find, list_all}
use Rattle.std.specs.Option.{option_or}
use Rattle.std.proofs.lemmas.Bool.Decides.{nat_tests}
use Rattle.role_steps.proofs.of_plain_facts.Numbers.{apart, at_most, at_most_test, equal, less, less_test}
use Rattle.role_steps.proofs.of_plain_facts.Options.{none_some, some_none, some_same}
use Rattle.role_steps.proofs.of_plain_facts.Tests.{and_first, and_second, and_true, true_false}
use Rattle.locus_ids.specs.Sites.{has}
use Rattle.locus_ids.specs.declared.config.Config.{Config}
use Rattle.locus_ids.specs.declared.ids.Stamp.{Stamp}
use Rattle.locus_ids.specs.declared.sites.Members.{Members}
use Rattle.locus_ids.specs.declared.sites.Sites.{Sites}
use Rattle.locus_ids.specs.Sizes.{inode_span, site_inodes, sites_max}
use Rattle.commit_graph.specs.Vectors.{numbers_from}
use Rattle.commit_graph.specs.Versions.{same_file}
use Rattle.trace_book.specs.declared.record.Record.{Record}
use Rattle.trace_book.specs.declared.record.Record.TheVariants as says
use Rattle.role_steps.specs.Storage.{is_used, next_ino}
use Rattle.role_steps.specs.Views.{Store}
use Rattle.tree_model.specs.Folds.{Trace}
use Rattle.tree_model.specs.Histories.{format_stamp, held}
use Rattle.tree_model.specs.Opening.{is_given_by}
use Rattle.tree_model.specs.Packs.{has_pack, is_good_set, is_member_of, is_place, is_within, least_site, making_site_in, packs_of, sync_site, that_passes}

-- ---- the next number ----

-- where there is no next number all are in use
pub next_none : (s : Store) (g ino left : ℕ) → next_ino s g ino left ≡ None → (k : ℕ) → ino ≤ k → k < ino + left → is_used s g k ≡ true
next_none s g ino zero e k low high = absurd (empty ino k low high)
  where
    empty : (a b : ℕ) → a ≤ b → b < a + 0 → ⊥
    empty a b l h = omega (arith, l, h)
next_none s g ino (suc left) e k low high = over (λ f l m. next_none s g (ino + 1) left f k l m) (is_used s g ino) refl e
  where
    more : (a b m : ℕ) → a ≤ b → (a ≡ b → ⊥) → a + 1 ≤ b
    more a b m l ne = omega (arith, l, ne)

    within : (a b m : ℕ) → b < a + suc m → b < a + 1 + m
    within a b m h = omega (arith, h)

    over : (next_ino s g (ino + 1) left ≡ None → ino + 1 ≤ k → k < ino + 1 + left → is_used s g k ≡ true) → (b : Bool) → is_used s g ino ≡ b → ◌≡◌ {A = Option ℕ} (elim b [ true ↦ next_ino s g (ino + 1) left | false ↦ Some ino ]) None → is_used s g k ≡ true
    over later true t f = at (ino == k) refl
      where
        at : (b : Bool) → (ino == k) ≡ b → is_used s g k ≡ true
        at true u = subst (λ (y : ℕ). is_used s g y ≡ true) (equal ino k u) t
        at false u = later f (more ino k left low (apart ino k u)) (within ino k left high)
    over later false t f = absurd (some_none ino f)

-- the next number isn't in use, and is one of these
pub record IsNext (s : Store) (g ino left k : ℕ) : Type 0 where
  pub unused : is_used s g k ≡ false
  pub low : ino ≤ k
  pub high : k < ino + left

pub next_some : (s : Store) (g ino left k : ℕ) → next_ino s g ino left ≡ Some k → IsNext s g ino left k
next_some s g ino zero k e = absurd (none_some k e)
next_some s g ino (suc left) k e = over (next_some s g (ino + 1) left k) (is_used s g ino) refl e
  where
    below : (a b m : ℕ) → a + 1 ≤ b → a ≤ b
    below a b m l = omega (arith, l)

    within : (a b m : ℕ) → b < a + 1 + m → b < a + suc m
    within a b m h = omega (arith, h)

    own_low : (a b : ℕ) → a ≡ b → a ≤ b
    own_low a b e = omega (arith, e)

    own_high : (a b m : ℕ) → a ≡ b → b < a + suc m
    own_high a b m e = omega (arith, e)

    over : (next_ino s g (ino + 1) left ≡ Some k → IsNext s g (ino + 1) left k) → (b : Bool) → is_used s g ino ≡ b → ◌≡◌ {A = Option ℕ} (elim b [ true ↦ next_ino s g (ino + 1) left | false ↦ Some ino ]) (Some k) → IsNext s g ino (suc left) k
    over later true t f = (let n : IsNext s g (ino + 1) left k = later f in record { unused = n.unused; low = below ino k left n.low; high = within ino k left n.high })
    over later false t f = record { unused = subst (λ (y : ℕ). is_used s g y ≡ false) (some_same ino k f) t; low = own_low ino k (some_same ino k f); high = own_high ino k left (some_same ino k f) }

-- ---- the range ----

pub given_in : (me k : ℕ) → 1 ≤ me → site_inodes * (me - 1) + 1 ≤ k → k < site_inodes * (me - 1) + 1 + site_inodes → 1 < k → is_given_by me k ≡ true
given_in me k site low high more = and_true (nat_lt (site_inodes * me) (k + site_inodes)) (nat_le k (site_inodes * me) && nat_lt 1 k) (less_test (site_inodes * me) (k + site_inodes) (above me k site low)) (and_true (nat_le k (site_inodes * me)) (nat_lt 1 k) (at_most_test k (site_inodes * me) (below me k site high)) (less_test 1 k more))
  where
    above : (a b : ℕ) → 1 ≤ a → site_inodes * (a - 1) + 1 ≤ b → site_inodes * a < b + site_inodes
    above a b s l = omega (arith, s, l)

    below : (a b : ℕ) → 1 ≤ a → b < site_inodes * (a - 1) + 1 + site_inodes → b ≤ site_inodes * a
    below a b s h = omega (arith, s, h)

pub record InRange (me k : ℕ) : Type 0 where
  pub low : site_inodes * (me - 1) + 1 ≤ k
  pub high : k < site_inodes * (me - 1) + 1 + site_inodes

pub given_range : (me k : ℕ) → 1 ≤ me → is_given_by me k ≡ true → InRange me k
given_range me k site e = record {
  low = above me k site (less (site_inodes * me) (k + site_inodes) (and_first (nat_lt (site_inodes * me) (k + site_inodes)) (nat_le k (site_inodes * me) && nat_lt 1 k) e));
  high = below me k site (at_most k (site_inodes * me) (and_first (nat_le k (site_inodes * me)) (nat_lt 1 k) (and_second (nat_lt (site_inodes * me) (k + site_inodes)) (nat_le k (site_inodes * me) && nat_lt 1 k) e)));
}
  where
    above : (a b : ℕ) → 1 ≤ a → site_inodes * a < b + site_inodes → site_inodes * (a - 1) + 1 ≤ b
    above a b s l = omega (arith, s, l)

    below : (a b : ℕ) → 1 ≤ a → b ≤ site_inodes * a → b < site_inodes * (a - 1) + 1 + site_inodes
    below a b s h = omega (arith, s, h)

pub range_narrow : (me k : ℕ) → me ≤ sites_max → k < site_inodes * (me - 1) + 1 + site_inodes → k < inode_span
range_narrow me k few high = omega (arith, few, high)

-- ---- the site of a make has a pack ----

found_passes : (p : ℕ → Bool) (xs : List ℕ) (s : ℕ) → find p xs ≡ Some s → p s ≡ true
found_passes p [] s e = absurd (none_some s e)
found_passes p (x ∷ xs) s e = at (found_passes p xs s) (p x) refl e
  where
    at : (find p xs ≡ Some s → p s ≡ true) → (b : Bool) → p x ≡ b → cond b (Some x) (find p xs) ≡ Some s → p s ≡ true
    at later true t f = subst (λ (y : ℕ). p y ≡ true) (some_same x s f) t
    at later false t f = later f

that_passed : (p : ℕ → Bool) (o : Option ℕ) (s : ℕ) → that_passes p o ≡ Some s → p s ≡ true
that_passed p None s e = absurd (none_some s e)
that_passed p (Some x) s e = at (p x) refl e
  where
    at : (b : Bool) → p x ≡ b → cond b (Some x) None ≡ Some s → p s ≡ true
    at true t f = subst (λ (y : ℕ). p y ≡ true) (some_same x s f) t
    at false t f = absurd (none_some s f)

either_passes : (p : ℕ → Bool) (a b : Option ℕ) (s : ℕ) → (a ≡ Some s → p s ≡ true) → (b ≡ Some s → p s ≡ true) → option_or a b ≡ Some s → p s ≡ true
either_passes p (Some x) b s first later e = first e
either_passes p None b s first later e = later e

site_passes : (c : Config) (g : ℕ) (members : Option Members) (own : ℕ) (set : Sites) (s : ℕ) → making_site_in c g members own set ≡ Some s → is_place members set s ≡ true
site_passes c g members own set s e = either_passes p (that_passes p (Some own)) (option_or (that_passes p (sync_site c g members)) (least_site p)) s (that_passed p (Some own) s)
    (either_passes p (that_passes p (sync_site c g members)) (least_site p) s (that_passed p (sync_site c g members) s) (found_passes p (numbers_from 1 sites_max) s)) e
  where
    p : ℕ → Bool
    p = is_place members set

all_pass : (q : ℕ → Bool) (a n s : ℕ) → list_all q (numbers_from a n) ≡ true → a ≤ s → s < a + n → q s ≡ true
all_pass q a zero s e low high = absurd (empty a s low high)
  where
    empty : (a b : ℕ) → a ≤ b → b < a + 0 → ⊥
    empty a b l h = omega (arith, l, h)
all_pass q a (suc n) s e low high = at (λ l m. all_pass q (a + 1) n s (and_second (q a) (list_all q (numbers_from (a + 1) n)) e) l m) (a == s) refl
  where
    more : (a b : ℕ) → a ≤ b → (a ≡ b → ⊥) → a + 1 ≤ b
    more a b l ne = omega (arith, l, ne)

    within : (a b m : ℕ) → b < a + suc m → b < a + 1 + m
    within a b m h = omega (arith, h)

    at : (a + 1 ≤ s → s < a + 1 + n → q s ≡ true) → (b : Bool) → (a == s) ≡ b → q s ≡ true
    at later true t = subst (λ (y : ℕ). q y ≡ true) (equal a s t) (and_first (q a) (list_all q (numbers_from (a + 1) n)) e)
    at later false t = later (more a s low (apart a s t)) (within a s n high)

pub place_packed : (c : Config) (g : ℕ) (members : Option Members) (own : ℕ) (set : Sites) (s : ℕ) → is_good_set c g members set ≡ true → making_site_in c g members own set ≡ Some s → 1 ≤ s → s ≤ sites_max → has_pack c g s ≡ true
place_packed c g members own set s good at low high = apply (has set s) (has (packs_of c g) s) (and_second (is_member_of members s) (has set s) (site_passes c g members own set s at))
    (all_pass (λ site. not (has set site) || has (packs_of c g) site) 1 sites_max s (and_first (is_within set (packs_of c g)) _ good) low (above s high))
  where
    above : (a : ℕ) → a ≤ sites_max → a < 1 + sites_max
    above a h = omega (arith, h)

    apply : (a b : Bool) → a ≡ true → not a || b ≡ true → b ≡ true
    apply true b e k = k
    apply false b e k = absurd (true_false (sym e))

-- ---- the root is held where there is a pack ----

pub root_held : (c : Config) (trace : Trace) (g me : ℕ) → has_pack c g me ≡ true → (stamp : Stamp) × (held c trace me (record { group = g; ino = 1 }) ≡ Some stamp)
root_held c [] g me packed = (format_stamp, ap (λ (b : Bool). cond b (Some format_stamp) None) packed)
root_held c (r ∷ before) g me packed = over r.what (root_held c before g me packed)
  where
    test : (b : Bool) (new : Stamp) (old : Option Stamp) → (stamp : Stamp) × (old ≡ Some stamp) → (stamp : Stamp) × (cond b (Some new) old ≡ Some stamp)
    test true new old k = (new, refl)
    test false new old k = k

    over : (w : Record) → (stamp : Stamp) × (held c before me (record { group = g; ino = 1 }) ≡ Some stamp) → (stamp : Stamp) × (held c (record { line = r.line; what = w } ∷ before) me (record { group = g; ino = 1 }) ≡ Some stamp)
    over (says.Commit file site stamp parents content) k = test (same_file file (record { group = g; ino = 1 }) && (site == me)) stamp (held c before me (record { group = g; ino = 1 })) k
    over (says.Adopt file site stamp) k = test (same_file file (record { group = g; ino = 1 }) && (site == me)) stamp (held c before me (record { group = g; ino = 1 })) k
    over _ k = k
