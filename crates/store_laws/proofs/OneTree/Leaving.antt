-- A site leaves its epoch, and promises a greater id.
use Rattle.std.proofs.Common.{◌≡◌, ℕ, ◌==◌, Bool, true, false, cond, List, [], ◌∷◌, Option, Some, None, refl, sym, ◌∙◌, subst, inl, inr}
use Rattle.role_steps.proofs.of_plain_facts.Numbers.{equal_self}
use Rattle.locus_ids.specs.declared.config.Config.{Config}
use Rattle.locus_ids.specs.declared.ids.EpochId.{EpochId}
use Rattle.locus_ids.specs.declared.sites.Sites.{Sites}
use Rattle.trace_book.specs.declared.record.Record.TheVariants as says
use Rattle.role_steps.specs.Epochs.{frame_in, left_view, leaves_of, leaves, promised_view, promises, with_users}
use Rattle.role_steps.specs.Using.{users_leave}
use Rattle.role_steps.specs.Views.{Frame, Store, Users, SiteView, Told, Shown, Promises, Outcome, tells}
use Rattle.role_steps.specs.declared.rounds.InEpoch.{InEpoch}
use Rattle.the_run.specs.Worlds.{Line, told_onto}
use Rattle.tree_model.specs.Epochs.{epoch_of, is_up}
use Rattle.tree_laws.specs.Doing.{NoWrite, Fine, IsOfUsers}
use Rattle.tree_laws.specs.Following.{MayTell}
use Rattle.tree_laws.specs.Printed.{entries}
use Rattle.tree_laws.specs.Stores.{CopiesAreHeld}
use Rattle.store_laws.specs.OneTree.Places.{IsOf, InsideFact, OutsideFact, UsersOutside, SiteFact, SiteIn, SiteFine}
use Rattle.store_laws.specs.OneTree.Rest.{AllRest, RestTold, Past, Comes, more}
use Rattle.store_laws.specs.OneTree.Roles.{RolesDo}
use Rattle.store_laws.proofs.OneTree.Frames.{copies_frame, outside_frame}
use Rattle.store_laws.proofs.OneTree.Staying.{Stays}
use Rattle.store_laws.proofs.OneTree.Composing.{past_more, past_onto, rest_first, rest_last, site_then}
use Rattle.store_laws.proofs.OneTree.Framing.{epoch_same, up_same, every_at, stay_over, idle_stays}
use Rattle.store_laws.proofs.OneTree.Parts.{copies_bare}
use Rattle.store_laws.proofs.OneTree.Sorts.{users_store, users_site, users_adopted}

-- ---- in no epoch, while the using site answers ----

-- what doesn't hang on using sites, of a site in no epoch
pub record Out (c : Config) (me : ℕ) (s : Store) (t : List Line) : Type 0 where
  pub up : is_up c (entries t) me ≡ true
  pub outside : epoch_of (entries t) me ≡ None
  pub copies : CopiesAreHeld c t me s

up_told : (c : Config) (n : ℕ) (x : Told) (older : List Line) (me : ℕ) → IsOfUsers me x → is_up c (entries (more n x older)) me ≡ is_up c (entries older) me
up_told c n (Shown r) older me u = up_same c n r (entries older) me (λ s. users_site me me (Shown r) u s)
up_told c n _ older me u = refl

epoch_told : (n : ℕ) (x : Told) (older : List Line) (me : ℕ) → IsOfUsers me x → epoch_of (entries (more n x older)) me ≡ epoch_of (entries older) me
epoch_told n (Shown r) older me u = epoch_same n r (entries older) me (λ s. users_site me me (Shown r) u s)
epoch_told n _ older me u = refl

out_told : (c : Config) → RolesDo c → (n me : ℕ) (s : Store) (x : Told) (older : List Line) → Comes c older x → IsOfUsers me x → Out c me s older → Out c me s (more n x older)
out_told c roles n me s x older k u h = record {
  up = up_told c n x older me u ∙ h.up;
  outside = epoch_told n x older me u ∙ h.outside;
  copies = copies_frame c n x older me s k (λ e w. users_store me me older e x u w) (λ a. users_adopted me me x u a) h.copies;
}

-- a using site answers, outside
pub out_over : (c : Config) → RolesDo c → (n me boot : ℕ) (trace : List Line) (v : SiteView) (o : Outcome Users) → Past c trace → Out c me v.store trace → v.boot ≡ boot → v.store.instances ≡ [] → v.store.steps ≡ [] → v.tables ≡ [] → v.pulls ≡ [] → AllRest c n trace o.told → Fine Users c n trace (IsOfUsers me) (UsersOutside c me boot) NoWrite o →
    SiteFine c n trace me (OutsideFact c me) NoWrite (record { view = with_users v o.view; sent = o.sent; told = o.told; written = o.written })
out_over c roles n me boot trace v o followed h is i j t p fresh k =
    let out : Out c me v.store (told_onto n o.told trace) = stay_over c n (λ u x. IsOfUsers me x) (Out c me v.store) (λ x older comes u g. out_told c roles n me v.store x older comes u g) o.told trace followed k.told fresh (every_at n (IsOfUsers me) (λ u x. IsOfUsers me x) (λ x u g. g) o.told trace k.own) h in
    record {
      told = k.told;
      own = every_at n (IsOfUsers me) (λ u x. IsOf c u me x) (λ x u g. inl g) o.told trace k.own;
      view = record { up = out.up; outside = out.outside; users = subst (λ (b : ℕ). UsersOutside c me b (told_onto n o.told trace) o.view) (sym is) k.view; copies = out.copies; instances = i; steps = j; tables = t; pulls = p };
      sent = k.sent;
      written = k.written;
    }

-- ---- leaving ----

cond_own : {A : Type 0} (s : ℕ) (x y : A) → cond (s == s) x y ≡ x
cond_own s x y = over (s == s) (equal_self s)
  where
    over : (b : Bool) → b ≡ true → cond b x y ≡ x
    over true e = refl
    over false e = absurd (cc)

-- outside, and the view says so
pub record Gone (c : Config) (me : ℕ) (t : List Line) (v : SiteView) : Type 0 where
  pub outside : OutsideFact c me t v
  pub none : v.epoch ≡ None

pub gone_site : (c : Config) (me : ℕ) (t : List Line) (v : SiteView) → Gone c me t v → SiteFact c me t v
gone_site c me t v h = subst (SiteIn c me t v) (sym h.none) h.outside

-- the line that tells it
leave_first : (c : Config) → RolesDo c → (n me : ℕ) (trace : List Line) (e : InEpoch) (v : SiteView) → Past c trace → InsideFact c (frame_in c me v.boot e) trace v → AllRest c n trace (Shown (says.Leave me e.id) ∷ []) →
    MayTell c trace (Shown (says.Leave me e.id)) × Out c me (left_view v).store (more n (Shown (says.Leave me e.id)) trace)
leave_first c roles n me trace e v followed h fresh = (
  may,
  record {
    up = h.frame.up;
    outside = cond_own me None (epoch_of (entries trace) me);
    copies = copies_frame c n (Shown (says.Leave me e.id)) trace me (left_view v).store (record { past = followed; may = may; rest = fresh.0 }) (λ at w. w) (λ a. a) (copies_bare c trace me v.store h.store.copies);
  },
)
  where
    may : MayTell c trace (Shown (says.Leave me e.id))
    may = record { row = record { inside = h.frame.inside }; in_time = tt }

leaves_in : (c : Config) → RolesDo c → Stays c → (n me : ℕ) (trace : List Line) (o : Option InEpoch) (v : SiteView) → Past c trace → SiteIn c me trace v o → v.epoch ≡ o → AllRest c n trace (leaves_of me o v).told → SiteFine c n trace me (Gone c me) NoWrite (leaves_of me o v)
leaves_in c roles stays n me trace None v followed h e fresh = record { told = tt; own = tt; view = record { outside = h; none = e }; sent = tt; written = tt }
leaves_in c roles stays n me trace (Some i) v followed h e fresh =
    let f : Frame = frame_in c me v.boot i in
    let x : Told = Shown (says.Leave me i.id) in
    let one : MayTell c trace x × Out c me (left_view v).store (more n x trace) = leave_first c roles n me trace i v followed h (fresh.0, tt) in
    let rest : SiteFine c n (more n x trace) me (OutsideFact c me) NoWrite _ = out_over c roles n me v.boot (more n x trace) (left_view v) (users_leave me v.boot i.id v.users) (past_more c n x trace followed one.0 fresh.0) one.1 refl refl refl refl refl fresh.1
    (roles.users.leaves n trace f v.users (record { past = followed; frame = h.frame }) h.users fresh.1) in
    record {
      told = (one.0, rest.told);
      own = (inr (inl refl), rest.own);
      view = record { outside = rest.view; none = refl };
      sent = rest.sent;
      written = rest.written;
    }

pub leaves_fine : (c : Config) → RolesDo c → Stays c → (n me : ℕ) (trace : List Line) (v : SiteView) → Past c trace → SiteFact c me trace v → AllRest c n trace (leaves me v).told → SiteFine c n trace me (Gone c me) NoWrite (leaves me v)
leaves_fine c roles stays n me trace v followed h fresh = leaves_in c roles stays n me trace v.epoch v followed h refl fresh

-- ---- promising ----

promise_tells : (c : Config) → RolesDo c → (n me : ℕ) (id : EpochId) (reach : Sites) (trace : List Line) (v : SiteView) → Past c trace → RestTold c trace (Promises me id reach) → Gone c me trace v → SiteFine c n trace me (Gone c me) NoWrite (tells (Promises me id reach ∷ []) (promised_view id v))
promise_tells c roles n me id reach trace v followed rest h =
    let x : Told = Promises me id reach in
    let comes : Comes c trace x = record { past = followed; may = tt; rest = rest } in
    record {
      told = (tt, tt);
      own = (inr (inr (inr (inr (inr tt)))), tt);
      view = record {
        outside = record {
          up = h.outside.up;
          outside = h.outside.outside;
          users = record {
            always = outside_frame c n x trace me v.boot v.users comes (λ k. k) (λ k. k) h.outside.users.always;
            idle = idle_stays c n x trace me (λ k. k) (λ k. k) h.outside.users.idle;
            calls = h.outside.users.calls;
            instances = h.outside.users.instances;
            hopeless = h.outside.users.hopeless;
            descriptors_ascend = h.outside.users.descriptors_ascend;
          };
          copies = copies_frame c n x trace me v.store comes (λ at k. k) (λ k. k) h.outside.copies;
          instances = h.outside.instances;
          steps = h.outside.steps;
          tables = h.outside.tables;
          pulls = h.outside.pulls;
        };
        none = h.none;
      };
      sent = tt;
      written = tt;
    }

pub promises_fine : (c : Config) → RolesDo c → Stays c → (n me : ℕ) (id : EpochId) (reach : Sites) (trace : List Line) (v : SiteView) → Past c trace → SiteFact c me trace v → AllRest c n trace (promises me id reach v).told → SiteFine c n trace me (Gone c me) NoWrite (promises me id reach v)
promises_fine c roles stays n me id reach trace v followed h fresh =
    let a : SiteFine c n trace me (Gone c me) NoWrite (leaves me v) = leaves_fine c roles stays n me trace v followed h (rest_first c n (leaves me v).told (Promises me id reach ∷ []) trace fresh) in
    site_then c n trace me (Gone c me) (Gone c me) NoWrite (leaves me v) (tells (Promises me id reach ∷ []) (promised_view id (leaves me v).view)) stays followed fresh a
    (promise_tells c roles n me id reach (told_onto n (leaves me v).told trace) (leaves me v).view (past_onto c n (leaves me v).told trace followed a.told (rest_first c n (leaves me v).told (Promises me id reach ∷ []) trace fresh)) (rest_last c n (leaves me v).told (Promises me id reach ∷ []) trace fresh).0 a.view)
