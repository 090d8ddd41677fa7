-- Packets that go to the synchronization site of a group, or back to whom a packet came from: to a member of the epoch.
use Rattle.std.proofs.Common.{◌≡◌, ◌≤◌, ◌<◌, ◌^◌, ℕ, zero, suc, ◌+◌, ◌==◌, ◌⊎◌, Bool, true, false, cond, ◌&&◌, not, List, [], ◌∷◌, length, filter, get_or, Option, Some, None, subst, refl, inl, inr, arith}
use Rattle.std.proofs.lemmas.Bool.Decides.{nat_tests}
use Rattle.role_steps.proofs.of_plain_facts.Tests.{both_true}
use Rattle.locus_ids.specs.Sites.{has}
use Rattle.locus_ids.specs.declared.sites.Sites.{Sites}
use Rattle.locus_ids.specs.Sizes.{sites_max}
use Rattle.wire_messages.specs.declared.packet.Packet.{Packet}
use Rattle.wire_messages.specs.declared.body.Body.{Body}
use Rattle.wire_messages.specs.declared.body.Body.TheVariants as body
use Rattle.role_steps.specs.Own.{Every}
use Rattle.role_steps.specs.Views.{Frame, SiteView, Outcome, packet, to_some, to_sync, sync_site, first_site, members_of, is_member, pack_sites, boot_in, all_sites}
use Rattle.role_steps.specs.declared.synchronizing.SyncTable.{SyncTable}
use Rattle.role_steps.specs.declared.synchronizing.LastLook.{LastLook}
use Rattle.the_run.proofs.Boots.{every_weaker}
use Rattle.packet_laws.specs.Fitting.Fields.{IsSite, IsBoot, AreBoots}

-- ---- who is listed ----

-- the site has this boot in the list
abbrev pub IsListed : List ℕ → ℕ → Type 0
IsListed bs s = 1 ≤ boot_in bs s

past_end : (bs : List ℕ) (k : ℕ) → length bs ≤ k → get_or bs k 0 ≡ 0
past_end [] k h = refl
past_end (b ∷ bs) zero h = absurd (omega (arith, h))
past_end (b ∷ bs) (suc k) h = past_end bs k (omega (arith, h))

either_way : (a b : ℕ) → (a ≤ b) ⊎ (b + 1 ≤ a)
either_way zero b = inl (omega arith)
either_way (suc a) zero = inr (omega arith)
either_way (suc a) (suc b) = more (either_way a b)
  where
    more : (a ≤ b) ⊎ (b + 1 ≤ a) → (suc a ≤ suc b) ⊎ (suc b + 1 ≤ suc a)
    more (inl h) = inl (omega (arith, h))
    more (inr h) = inr (omega (arith, h))

-- who is listed among sixteen boots is a site
pub listed_site : (bs : List ℕ) (s : ℕ) → AreBoots bs → IsListed bs s → IsSite s × IsBoot (boot_in bs s)
listed_site bs zero fit h = absurd (omega (arith, h))
listed_site bs (suc k) fit h = ((omega arith, by_order (either_way (suc k) sites_max)), (h, fit.1 (suc k)))
  where
    by_order : (suc k ≤ sites_max) ⊎ (sites_max + 1 ≤ suc k) → suc k ≤ sites_max
    by_order (inl g) = g
    by_order (inr g) = absurd (let e : get_or bs k 0 ≡ 0 = past_end bs k (omega (arith, g, fit.0)) in omega (arith, e, h))

passing : {A : Type 0} (test : A → Bool) (b : Bool) (x : A) (ys : List A) → test x ≡ b → Every (λ (y : A). test y ≡ true) ys → Every (λ (y : A). test y ≡ true) (cond b (x ∷ ys) ys)
passing test true x ys e h = (e, h)
passing test false x ys e h = h

pub every_passing : {A : Type 0} (test : A → Bool) (xs : List A) → Every (λ (y : A). test y ≡ true) (filter test xs)
every_passing test [] = tt
every_passing test (x ∷ xs) = passing test (test x) x (filter test xs) refl (every_passing test xs)

pub not_none : (n : ℕ) → not (n == 0) ≡ true → 1 ≤ n
not_none n h = grind (arith, nat_tests)

-- ---- packets ----

abbrev pub IsAddressed : Packet → Type 0
IsAddressed p = IsSite p.to × IsBoot p.to_boot

-- what goes to a synchronization site, or back, is to a site and a boot
abbrev pub Meant : Packet → Body → Type 0
Meant p (body.Report group copies) = IsAddressed p
Meant p (body.ReportOk group) = IsAddressed p × (group < 2 ^ 8)
Meant p (body.Open serial call process request file how) = IsAddressed p
Meant p (body.Opened inst answer) = IsAddressed p
Meant p (body.Closed inst made) = IsAddressed p
Meant p (body.ClosedOk inst) = IsAddressed p
Meant p (body.Look call process request take file what) = IsAddressed p
Meant p (body.Page file stamp page bytes) = IsAddressed p
Meant p (body.Delta file wanted pages) = IsAddressed p
Meant p (body.Have file stamp) = IsAddressed p
Meant p _ = Unit {0}

abbrev pub Meets : Packet → Type 0
Meets p = Meant p p.body

-- it is none of those
abbrev pub MeetsNone : Body → Type 0
MeetsNone (body.Report group copies) = ⊥
MeetsNone (body.ReportOk group) = ⊥
MeetsNone (body.Open serial call process request file how) = ⊥
MeetsNone (body.Opened inst answer) = ⊥
MeetsNone (body.Closed inst made) = ⊥
MeetsNone (body.ClosedOk inst) = ⊥
MeetsNone (body.Look call process request take file what) = ⊥
MeetsNone (body.Page file stamp page bytes) = ⊥
MeetsNone (body.Delta file wanted pages) = ⊥
MeetsNone (body.Have file stamp) = ⊥
MeetsNone _ = Unit {0}

pub meets_none : (p : Packet) (b : Body) → MeetsNone b → Meant p b
meets_none p (body.Report group copies) h = absurd h
meets_none p (body.ReportOk group) h = absurd h
meets_none p (body.Open serial call process request file how) h = absurd h
meets_none p (body.Opened inst answer) h = absurd h
meets_none p (body.Closed inst made) h = absurd h
meets_none p (body.ClosedOk inst) h = absurd h
meets_none p (body.Look call process request take file what) h = absurd h
meets_none p (body.Page file stamp page bytes) h = absurd h
meets_none p (body.Delta file wanted pages) h = absurd h
meets_none p (body.Have file stamp) h = absurd h
meets_none p _ h = tt

-- it answers no report
abbrev pub IsNoAnswer : Body → Type 0
IsNoAnswer (body.ReportOk group) = ⊥
IsNoAnswer _ = Unit {0}

pub meets_any : (p : Packet) (b : Body) → IsNoAnswer b → IsAddressed p → Meant p b
meets_any p (body.Report group copies) n h = h
meets_any p (body.ReportOk group) n h = absurd n
meets_any p (body.Open serial call process request file how) n h = h
meets_any p (body.Opened inst answer) n h = h
meets_any p (body.Closed inst made) n h = h
meets_any p (body.ClosedOk inst) n h = h
meets_any p (body.Look call process request take file what) n h = h
meets_any p (body.Page file stamp page bytes) n h = h
meets_any p (body.Delta file wanted pages) n h = h
meets_any p (body.Have file stamp) n h = h
meets_any p _ n h = tt

-- a packet to a member
pub meets_listed : (f : Frame) (fit : AreBoots f.members.boot) (to : ℕ) (b : Body) → IsNoAnswer b → IsListed f.members.boot to → Meets (packet f to b)
meets_listed f fit to b n h = meets_any (packet f to b) b n (listed_site f.members.boot to fit h)

first_meets : (f : Frame) (fit : AreBoots f.members.boot) (b : Body) (ss : List ℕ) → IsNoAnswer b → Every (IsListed f.members.boot) ss → Every Meets (to_some f b (first_site ss))
first_meets f fit b [] n h = tt
first_meets f fit b (s ∷ ss) n h = (meets_listed f fit s b n h.0, tt)

members_listed : (f : Frame) (set : Sites) → Every (IsListed f.members.boot) (members_of f.members set)
members_listed f set = every_weaker (λ (s : ℕ). (has set s && is_member f.members s) ≡ true) (IsListed f.members.boot) (members_of f.members set) (λ s h. not_none (boot_in f.members.boot s) (both_true (has set s) (is_member f.members s) h).1) (every_passing (λ (s : ℕ). has set s && is_member f.members s) all_sites)

-- a synchronization site is a member
pub meets_sync : (f : Frame) (fit : AreBoots f.members.boot) (group : ℕ) (b : Body) → IsNoAnswer b → Every Meets (to_sync f group b)
meets_sync f fit group b n = first_meets f fit b (members_of f.members (pack_sites f.config group)) n (members_listed f (pack_sites f.config group))

pub sync_listed : (f : Frame) (group to : ℕ) → sync_site f.config f.members group ≡ Some to → IsListed f.members.boot to
sync_listed f group to e = first (members_of f.members (pack_sites f.config group)) (members_listed f (pack_sites f.config group)) e
  where
    first : (ss : List ℕ) → Every (IsListed f.members.boot) ss → first_site ss ≡ Some to → IsListed f.members.boot to
    first [] h e = absurd (none_some e)
      where
        none_some : ◌≡◌ {A = Option ℕ} None (Some to) → ⊥
        none_some e = cc
    first (s ∷ ss) h e = subst (IsListed f.members.boot) (same e) h.0
      where
        same : ◌≡◌ {A = Option ℕ} (Some s) (Some to) → s ≡ to
        same e = cc

-- ---- tables and outcomes ----

-- so is the kept answer to a look
abbrev pub LookMeets : LastLook → Type 0
LookMeets l = MeetsNone l.body

abbrev pub TableMeets : SyncTable → Type 0
TableMeets t = Every LookMeets t.looks × (t.group < 2 ^ 8)

-- the outcome waits for the answers of the same members
pub record MeetingSite (v : SiteView) (o : Outcome SiteView) : Type 0 where
  pub installs : o.view.installs ≡ v.installs
  pub tables : Every TableMeets o.view.tables
  pub sent : Every Meets o.sent
