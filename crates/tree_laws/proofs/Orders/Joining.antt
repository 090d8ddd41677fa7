-- Packs come to an epoch before their group starts in it.
use Rattle.std.proofs.Common.{◌≡◌, ℕ, zero, suc, ◌+◌, ◌-◌, ◌<◌, ◌≤◌, ◌==◌, Bool, true, false, not, ◌&&◌, ◌||◌, cond, List, [], ◌∷◌, Option, Some, None, refl, sym, ap, ◌∙◌, subst, arith, ⊎_elim}
use Rattle.std.proofs.lemmas.Bool.Decides.{nat_tests}
use Rattle.std.proofs.lemmas.Nat.Bits.{bit_at_above}
use Rattle.std.specs.List.{list_all}
use Rattle.std.specs.Prelude.{nat_lt}
use Rattle.plain_facts.proofs.Numbers.{equal}
use Rattle.plain_facts.proofs.Options.{some_same}
use Rattle.plain_facts.proofs.Tests.{and_first, and_second, or_second, true_false}
use Rattle.locus_ids.specs.Sites.{has}
use Rattle.locus_ids.specs.declared.config.Config.{Config}
use Rattle.locus_ids.specs.declared.ids.Brought.{Brought}
use Rattle.locus_ids.specs.declared.ids.EpochId.{EpochId}
use Rattle.locus_ids.specs.declared.sites.Members.{Members}
use Rattle.locus_ids.specs.Sizes.{sites_max}
use Rattle.commit_graph.specs.declared.history.Version.{Version}
use Rattle.commit_graph.specs.Vectors.{numbers_from}
use Rattle.trace_book.specs.Same.{same_epoch}
use Rattle.trace_book.specs.declared.record.Record.{Record}
use Rattle.trace_book.specs.declared.record.Record.TheVariants as says
use Rattle.tree_model.specs.Epochs.{boot_of, has_joined, members_of}
use Rattle.tree_model.specs.Folds.{Trace}
use Rattle.tree_model.specs.Histories.{history}
use Rattle.tree_model.specs.Packs.{boot_in, has_pack, is_member, is_member_of, packs_of}
use Rattle.tree_model.specs.State.{TreeState, is_granted_here, is_make}
use Rattle.tree_model.specs.Tree.{acted, grant_of, granted, joined, left, next, released, tree_of, without_make}
use Rattle.lawful_trace.specs.Lawful.{MayCome}
use Rattle.lawful_trace.specs.SiteRows.{MayJoin}
use Rattle.lawful_trace.specs.TreeRows.{MayStart, is_served}
use Rattle.tree_laws.specs.Following.{RowsAreLawful}
use Rattle.tree_laws.proofs.Names.{same_epoch_eq}
use Rattle.tree_laws.specs.Orders.Joining.{NoPackComes, PacksAreOfSites}
use Rattle.tree_laws.proofs.Orders.Alone.{tree_named}

-- ---- numbers and boots ----

pub all_numbers : (p : ℕ → Bool) (k n s : ℕ) → k ≤ s → s < k + n → list_all p (numbers_from k n) ≡ true → p s ≡ true
all_numbers p k zero s low high all = absurd (omega (arith, low, high))
all_numbers p k (suc n) s low high all = at (k == s) refl (λ l h. all_numbers p (k + 1) n s l h (and_second (p k) _ all))
  where
    at : (b : Bool) → (k == s) ≡ b → (k + 1 ≤ s → s < (k + 1) + n → p s ≡ true) → p s ≡ true
    at true e later = subst (λ (m : ℕ). p m ≡ true) (equal k s e) (and_first (p k) _ all)
    at false e later = later (above k s low e) (omega (arith, high))
      where
        above : (a z : ℕ) → a ≤ z → (a == z) ≡ false → a + 1 ≤ z
        above a z le ne = grind (arith, nat_tests)

-- a boot number is 1 at least
pub boot_low : (c : Config) (trace : Trace) → RowsAreLawful c trace → (site : ℕ) → 1 ≤ boot_of trace site
boot_low c [] rows site = omega arith
boot_low c (r ∷ before) rows site = over r.what rows.0 (boot_low c before rows.1 site)
  where
    high : (a z : ℕ) → nat_lt a z ≡ true → 1 ≤ z
    high a z e = grind (arith, nat_tests)

    at : (b : Bool) (new old : ℕ) → 1 ≤ new → 1 ≤ old → 1 ≤ cond b new old
    at true new old x y = x
    at false new old x y = y

    over : (w : Record) → MayCome c before w → 1 ≤ boot_of before site → 1 ≤ boot_of (record { line = r.line; what = w } ∷ before) site
    over (says.Up s boot) may low = at (s == site) boot (boot_of before site) (high (boot_of before s) boot may.above) low
    over w may low = low

-- ---- once the group has started, all its packs are there ----

pub record Whole (c : Config) (trace : Trace) (e : EpochId) (g : ℕ) : Type 0 where
  pub members : Members
  pub are : members_of trace e ≡ Some members
  pub joined : (site : ℕ) → 1 ≤ site → site ≤ sites_max → is_member members site ≡ true → has_pack c g site ≡ true → has_joined trace site e ≡ true

no_members : (m : Members) → ◌≡◌ {A = Option Members} None (Some m) → ⊥
no_members m e = cc

-- every member that joins has the same list
same_members : (c : Config) (before : Trace) (e : EpochId) (site : ℕ) (m old : Members) → MayJoin c before site e m → members_of before e ≡ Some old → m ≡ old
same_members c before e site m old may are = ⊎_elim (λ (none : members_of before e ≡ None). absurd (no_members old (sym none ∙ are))) (λ (is : members_of before e ≡ Some m). some_same m old (sym is ∙ are)) may.same

whole_next : (c : Config) (line : ℕ) (r : Record) (before : Trace) (e : EpochId) (g : ℕ) → MayCome c before r → Whole c before e g → Whole c (record { line = line; what = r } ∷ before) e g
whole_next c line (says.Join s d m) before e g may w = record {
  members = w.members;
  are = over (same_epoch d e) refl;
  joined = λ site low high member pack. or_second ((s == site) && same_epoch d e) (has_joined before site e) (w.joined site low high member pack);
}
  where
    over : (b : Bool) → same_epoch d e ≡ b → cond b (Some m) (members_of before e) ≡ Some w.members
    over true k = (let is : d ≡ e = same_epoch_eq d e k in ap (λ (x : Members). Some x) (same_members c before e s m w.members (subst (λ (x : EpochId). MayJoin c before s x m) is may) w.are))
    over false k = w.are
whole_next c line r before e g may w = record { members = w.members; are = w.are; joined = w.joined }

-- the members of a group that is served are known
served_members : (c : Config) (before : Trace) (e : EpochId) (g : ℕ) (o : Option Members) → members_of before e ≡ o → is_served c before e g ≡ true → (m : Members) × (o ≡ Some m)
served_members c before e g (Some m) are served = (m, refl)
served_members c before e g None are served = absurd (true_false (sym (rw are at served)))

started_whole : (c : Config) (before : Trace) (e : EpochId) (g : ℕ) (copies : List Brought) → MayStart c before e g copies → Whole c before e g
started_whole c before e g copies may =
    let ms : (m : Members) × (members_of before e ≡ Some m) = served_members c before e g (members_of before e) refl may.served in record {
      members = ms.0;
      are = ms.1;
      joined = λ site low high member pack. has (is_member_of (members_of before e) site) (has_pack c g site) (has_joined before site e) (ap (λ (o : Option Members). is_member_of o site) ms.1 ∙ member) pack
          (all_numbers (λ s. not (is_member_of (members_of before e) s && has_pack c g s) || has_joined before s e) 1 sites_max site low (omega (arith, high)) may.whole);
    }
  where
    has : (a b d : Bool) → a ≡ true → b ≡ true → not (a && b) || d ≡ true → d ≡ true
    has true true d x y h = h
    has true false d x y h = absurd (true_false (sym y))
    has false b d x y h = absurd (true_false (sym x))

started_if : (b : Bool) (u t : TreeState) → u.started ≡ t.started → (cond b u t).started ≡ t.started
started_if true u t e = e
started_if false u t e = refl

module _ (c : Config) (e : EpochId) (g : ℕ) (before : Trace) (old : (tree_of c e g before).started ≡ true → Whole c before e g) where
  abbrev t : TreeState
  t = tree_of c e g before

  abbrev h : List Version
  h = history c before

  whole_now : (r : Record) → MayCome c before r → (next h r t).started ≡ true → Whole c before e g
  whole_now (says.Start d k copies) may s = over (same_epoch d t.epoch && (k == t.group)) refl s
    where
      named : (t.epoch ≡ e) × (t.group ≡ g)
      named = tree_named c e g before

      over : (b : Bool) → same_epoch d t.epoch && (k == t.group) ≡ b → (cond b (record t { started = true }) t).started ≡ true → Whole c before e g
      over true b x = subst (λ (n : ℕ). Whole c before e n) (equal k t.group (and_second (same_epoch d t.epoch) _ b) ∙ named.1) (subst (λ (y : EpochId). Whole c before y k) (same_epoch_eq d t.epoch (and_first (same_epoch d t.epoch) _ b) ∙ named.0) (started_whole c before d k copies may))
      over false b x = old x
  whole_now (says.Join s d m) may x = over (same_epoch d t.epoch) x
    where
      over : (b : Bool) → (cond b (joined s m t) (left s t)).started ≡ true → Whole c before e g
      over true y = old y
      over false y = old y
  whole_now (says.Grant d call request i m f stamp ss) may x = old (sym (started_if (same_epoch d t.epoch) (granted h (grant_of t call i m f ss) stamp t) t refl) ∙ x)
  whole_now (says.Refuse d call request i m f why) may x = old (sym (started_if (same_epoch d t.epoch && ((f.group == t.group) && is_make m)) (record t { makes = without_make call t.makes }) t refl) ∙ x)
  whole_now (says.Act d i n o result) may x = old (sym (started_if (same_epoch d t.epoch && is_granted_here t i) (acted h i o result t) t refl) ∙ x)
  whole_now (says.Release d i f stamp) may x = old (sym (started_if (same_epoch d t.epoch && (f.group == t.group)) (released i f stamp t) t refl) ∙ x)
  whole_now r may x = old x

pub started_all : (c : Config) (trace : Trace) → RowsAreLawful c trace → (e : EpochId) (g : ℕ) → (tree_of c e g trace).started ≡ true → Whole c trace e g
started_all c [] rows e g s = absurd (true_false (sym s))
started_all c (r ∷ before) rows e g s = whole_next c r.line r.what before e g rows.0 (whole_now c e g before (started_all c before rows.1 e g) r.what rows.0 s)

-- ---- so none comes later ----

pub is_place : (a : ℕ) (m : Members) (site : ℕ) → boot_in m site ≡ a → 1 ≤ a → is_member m site ≡ true
is_place a m site e low = above (boot_in m site) (subst (λ (n : ℕ). 1 ≤ n) (sym e) low)
  where
    above : (z : ℕ) → 1 ≤ z → nat_lt 0 z ≡ true
    above z le = grind (arith, nat_tests)

no_place : (a : ℕ) (m : Members) (site : ℕ) → boot_in m site ≡ a → 1 ≤ a → 1 ≤ site
no_place a m zero e low = absurd (zero_low (subst (λ (n : ℕ). 1 ≤ n) (sym e) low))
  where
    zero_low : 1 ≤ 0 → ⊥
    zero_low le = omega (arith, le)
no_place a m (suc site) e low = omega arith

few_sites : (c : Config) (g site : ℕ) → PacksAreOfSites c → 1 ≤ site → has_pack c g site ≡ true → site ≤ sites_max
few_sites c g site few low pack = at (nat_lt sites_max site) refl
  where
    beyond : nat_lt sites_max site ≡ true → sites_max ≤ site - 1
    beyond e = grind (arith, nat_tests)

    within : nat_lt sites_max site ≡ false → site ≤ sites_max
    within e = grind (arith, nat_tests)

    none : nat_lt sites_max site ≡ true → has (packs_of c g) site ≡ false
    none e = ap (λ (n : ℕ). n == 1) (bit_at_above (packs_of c g).0 sites_max (site - 1) (few g) (beyond e))

    at : (b : Bool) → nat_lt sites_max site ≡ b → site ≤ sites_max
    at true e = absurd (true_false (sym pack ∙ none e))
    at false e = within e

pub no_pack_comes : (c : Config) (before : Trace) → PacksAreOfSites c → RowsAreLawful c before → NoPackComes c before
no_pack_comes c before few rows e g site m started may = at (has_pack c g site) refl
  where
    whole : Whole c before e g
    whole = started_all c before rows e g started

    at : (b : Bool) → has_pack c g site ≡ b → b ≡ false
    at false k = refl
    at true k =
        let low : 1 ≤ boot_of before site = boot_low c before rows site in
        let least : 1 ≤ site = no_place (boot_of before site) m site may.member low in
        let member : is_member whole.members site ≡ true = subst (λ (x : Members). is_member x site ≡ true) (same_members c before e site m whole.members may whole.are) (is_place (boot_of before site) m site may.member low) in
        absurd (true_false (sym (whole.joined site least (few_sites c g site few least k) member k) ∙ may.new))
