-- Who has joined an epoch is one of the sixteen sites, and one of its members; and once a group has started, each of them that has a
-- pack has reported.
use Rattle.std.proofs.Common.{◌≡◌, ℕ, zero, suc, ◌+◌, ◌≤◌, ◌<◌, ◌==◌, Bool, true, false, ◌&&◌, ◌||◌, cond, List, [], ◌∷◌, filter, Option, Some, None, refl, sym, ◌∙◌, ap, subst, ◌⊎◌, inl, inr, arith}
use Rattle.std.proofs.lemmas.Bool.Decides.{nat_tests}
use Rattle.std.specs.List.{list_all}
use Rattle.role_steps.proofs.of_plain_facts.Numbers.{equal}
use Rattle.role_steps.proofs.of_plain_facts.Options.{some_same}
use Rattle.role_steps.proofs.of_plain_facts.Tests.{and_first, and_second, and_true, true_false}
use Rattle.locus_ids.specs.Sites.{has}
use Rattle.locus_ids.specs.declared.config.Config.{Config}
use Rattle.locus_ids.specs.declared.ids.EpochId.{EpochId}
use Rattle.locus_ids.specs.declared.sites.Members.{Members}
use Rattle.locus_ids.specs.Sizes.{sites_max}
use Rattle.commit_graph.specs.Vectors.{numbers_from}
use Rattle.trace_book.specs.Same.{same_epoch}
use Rattle.trace_book.specs.declared.record.Record.{Record}
use Rattle.trace_book.specs.declared.record.Record.TheVariants as says
use Rattle.role_steps.specs.Reports.{have_all_reported}
use Rattle.role_steps.specs.Views.{Frame, Told, Shown, pack_sites}
use Rattle.role_steps.specs.Views as role
use Rattle.role_steps.specs.declared.synchronizing.SyncTable.{SyncTable}
use Rattle.the_run.specs.Kept.{Among}
use Rattle.the_run.specs.Worlds.{Line}
use Rattle.tree_model.specs.Epochs.{has_joined, members_of}
use Rattle.tree_model.specs.Folds.{Trace}
use Rattle.tree_model.specs.Packs.{has_pack}
use Rattle.tree_model.specs.Packs as tree
use Rattle.store_laws.specs.of_site_laws.Vectors.HistoryCommits.{IsSite}
use Rattle.tree_laws.specs.Doing.{FrameFact}
use Rattle.tree_laws.specs.Following.{IsFollowed, MayTell}
use Rattle.tree_laws.specs.Packets.{IsReporter}
use Rattle.tree_laws.specs.Printed.{entries, onto_entries}
use Rattle.tree_laws.specs.Tables.{HasReported}
use Rattle.tree_laws.proofs.Names.{same_epoch_eq}
use Rattle.tree_laws.proofs.Rows.{followed_rows}
use Rattle.store_laws.proofs.of_tree_laws.Orders.Joining.{boot_low, is_place}
use Rattle.store_laws.specs.OneTree.Rest.{EachRest, Past, RangeTold}
use Rattle.rest_laws.proofs.EpochTreeStarting.{member_same}

-- ---- who has joined ----

pub record Joined (trace : Trace) (s : ℕ) (e : EpochId) : Type 0 where
  pub site : IsSite s
  pub members : Members
  pub are : members_of trace e ≡ Some members
  pub is_member : tree.is_member members s ≡ true

no_members : (m : Members) → ◌≡◌ {A = Option Members} None (Some m) → ⊥
no_members m e = cc

module _ (c : Config) (older : List Line) (n : ℕ) (followed : IsFollowed c older) (s : ℕ) (e : EpochId) where
  -- the record is another's, or of another epoch
  other : (r : Record) → members_of (entries (record { number = n; told = Shown r } ∷ older)) e ≡ members_of (entries older) e → Joined (entries older) s e → Joined (entries (record { number = n; told = Shown r } ∷ older)) s e
  other r same k = record { site = k.site; members = k.members; are = same ∙ k.are; is_member = k.is_member }

  joins_next : (r : Record) → MayTell c older (Shown r) → RangeTold c (Shown r) → (has_joined (entries older) s e ≡ true → Joined (entries older) s e) → has_joined (entries (record { number = n; told = Shown r } ∷ older)) s e ≡ true → Joined (entries (record { number = n; told = Shown r } ∷ older)) s e
  joins_next (says.Join z d m) may range before h = at (z == s) refl (same_epoch d e) refl h
    where
      -- with the same list
      again : same_epoch d e ≡ true → Joined (entries older) s e → Joined (entries (record { number = n; told = Shown (says.Join z d m) } ∷ older)) s e
      again q k = record { site = k.site; members = m; are = ap (λ (b : Bool). cond b (Some m) (members_of (entries older) e)) q; is_member = over may.row.same }
        where
          over : (members_of (entries older) d ≡ None) ⊎ (members_of (entries older) d ≡ Some m) → tree.is_member m s ≡ true
          over (inl none) = absurd (no_members k.members (sym none ∙ subst (λ (y : EpochId). members_of (entries older) y ≡ Some k.members) (sym (same_epoch_eq d e q)) k.are))
          over (inr is) = subst (λ (y : Members). tree.is_member y s ≡ true) (some_same k.members m (sym (subst (λ (y : EpochId). members_of (entries older) y ≡ Some k.members) (sym (same_epoch_eq d e q)) k.are) ∙ is)) k.is_member

      at : (a : Bool) → (z == s) ≡ a → (b : Bool) → same_epoch d e ≡ b → (a && b) || has_joined (entries older) s e ≡ true → Joined (entries (record { number = n; told = Shown (says.Join z d m) } ∷ older)) s e
      at true p true q h = record {
        site = subst IsSite (equal z s p) range;
        members = m;
        are = ap (λ (b : Bool). cond b (Some m) (members_of (entries older) e)) q;
        is_member = subst (λ (y : ℕ). tree.is_member m y ≡ true) (equal z s p) (is_place _ m z may.row.member (boot_low c (entries older) (followed_rows c older followed) z));
      }
      at true p false q h = other (says.Join z d m) (ap (λ (b : Bool). cond b (Some m) (members_of (entries older) e)) q) (before h)
      at false p true q h = again q (before h)
      at false p false q h = other (says.Join z d m) (ap (λ (b : Bool). cond b (Some m) (members_of (entries older) e)) q) (before h)
  joins_next r may range before h = other r refl (before h)

pub joined_as : (c : Config) (t : List Line) → IsFollowed c t → EachRest c t → (s : ℕ) (e : EpochId) → has_joined (entries t) s e ≡ true → Joined (entries t) s e
joined_as c [] followed rest s e h = absurd (true_false (sym h))
joined_as c (x ∷ older) followed rest s e h = over x.told followed.0 rest.0.range (joined_as c older followed.1 rest.1 s e) h
  where
    over : (y : Told) → MayTell c older y → RangeTold c y → (has_joined (entries older) s e ≡ true → Joined (entries older) s e) → has_joined (onto_entries x.number y (entries older)) s e ≡ true → Joined (onto_entries x.number y (entries older)) s e
    over (Shown r) may range before h = joins_next c older x.number followed.1 s e r may range before h
    over _ may range before h = before h

-- ---- all of them have reported ----

among_numbers : (k n s : ℕ) → k ≤ s → s < k + n → Among s (numbers_from k n)
among_numbers k zero s low high = absurd (omega (arith, low, high))
among_numbers k (suc n) s low high = at (k == s) refl (λ l h. among_numbers (k + 1) n s l h)
  where
    above : (a z : ℕ) → a ≤ z → (a == z) ≡ false → a + 1 ≤ z
    above a z le ne = grind (arith, nat_tests)

    at : (b : Bool) → (k == s) ≡ b → (k + 1 ≤ s → s < (k + 1) + n → Among s (numbers_from (k + 1) n)) → (s ≡ k) ⊎ Among s (numbers_from (k + 1) n)
    at true e later = inl (sym (equal k s e))
    at false e later = inr (later (above k s low e) (omega (arith, high)))

-- each that passes the filter passes the test of those that are left
left_passes : (p q : ℕ → Bool) (xs : List ℕ) (x : ℕ) → Among x xs → list_all p (filter q xs) ≡ true → q x ≡ true → p x ≡ true
left_passes p q [] x m k e = absurd m
left_passes p q (y ∷ ys) x m k e = at (q y) refl k m (left_passes p q ys x)
  where
    at : (b : Bool) → q y ≡ b → list_all p (cond b (y ∷ filter q ys) (filter q ys)) ≡ true → (x ≡ y) ⊎ Among x ys → (Among x ys → list_all p (filter q ys) ≡ true → q x ≡ true → p x ≡ true) → p x ≡ true
    at true h k (inl s) later = subst (λ (z : ℕ). p z ≡ true) (sym s) (and_first (p y) _ k)
    at true h k (inr m) later = later m (and_second (p y) _ k) e
    at false h k (inl s) later = absurd (true_false (sym (subst (λ (z : ℕ). q z ≡ true) s e) ∙ h))
    at false h k (inr m) later = later m k e

pub reporter_counts : (c : Config) (trace : List Line) (f : Frame) (s : ℕ) (t : SyncTable) → Past c trace → FrameFact c trace f → IsReporter c trace f.epoch s t.group → have_all_reported f t ≡ true → HasReported t s
reporter_counts c trace f s t past frame k all = (
  j.site.low,
  left_passes (has t.reported) (λ (y : ℕ). has (pack_sites f.config t.group) y && role.is_member f.members y) role.all_sites s (among_numbers 1 sites_max s j.site.low (below s j.site.high)) all
      (and_true (has (pack_sites f.config t.group) s) (role.is_member f.members s) (ap (λ (y : Config). has (pack_sites y t.group) s) frame.config_is ∙ k.packed)
      (member_same f.members s ∙ subst (λ (m : Members). tree.is_member m s ≡ true) (some_same j.members f.members (sym j.are ∙ frame.members_are)) j.is_member)),
)
  where
    j : Joined (entries trace) s f.epoch
    j = joined_as c trace past.followed past.rest.each s f.epoch k.joined

    below : (a : ℕ) → a ≤ sites_max → a < 1 + sites_max
    below a h = omega (arith, h)

pub reporter_low : (c : Config) (trace : List Line) (e : EpochId) (s g : ℕ) → Past c trace → IsReporter c trace e s g → 1 ≤ s
reporter_low c trace e s g past k = (joined_as c trace past.followed past.rest.each s e k.joined).site.low
