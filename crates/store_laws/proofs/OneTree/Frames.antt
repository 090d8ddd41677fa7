-- What each role has stays while others tell what they do, as the laws of the roles give it.
use Rattle.std.proofs.Common.{◌≡◌, ℕ, ◌==◌, Bool, true, false, cond, List, [], ◌∷◌, None, ◌⊎◌, refl, sym, ◌∙◌, inl, inr}
use Rattle.role_steps.proofs.of_plain_facts.Numbers.{equal_self}
use Rattle.locus_ids.specs.declared.config.Config.{Config}
use Rattle.locus_ids.specs.declared.ids.EpochId.{EpochId}
use Rattle.locus_ids.specs.declared.ids.FileId.{FileId}
use Rattle.trace_book.specs.declared.record.Record.{Record}
use Rattle.trace_book.specs.declared.record.Record.TheVariants as says
use Rattle.role_steps.specs.Own.{Every}
use Rattle.role_steps.specs.Views.{Frame, Store, Users, Told, Shown}
use Rattle.role_steps.specs.declared.pulls.Pull.{Pull}
use Rattle.role_steps.specs.declared.synchronizing.SyncTable.{SyncTable}
use Rattle.the_run.specs.Worlds.{Line, no_epoch}
use Rattle.tree_model.specs.Epochs.{boot_of, calls_accepted}
use Rattle.tree_laws.specs.of_lawful_trace.Tables.{descriptor}
use Rattle.tree_laws.specs.Doing.{FrameFact, IsOfUsers, IsOfStore, IsAdopted, IsOfTable, IsOfSite, UsersInside, StoreHeld, PullsFact}
use Rattle.tree_laws.specs.Frames.{AllStay}
use Rattle.tree_laws.specs.Printed.{entries}
use Rattle.tree_laws.specs.Serials.{opens_asked}
use Rattle.tree_laws.specs.Stores.{CopiesAreHeld}
use Rattle.tree_laws.specs.Tables.{TableFact}
use Rattle.tree_laws.specs.Users.{UsersFact}
use Rattle.tree_laws.proofs.Rows.{followed_rows}
use Rattle.store_laws.specs.Holdings.Below.{LawsBelow}
use Rattle.store_laws.proofs.Holdings.Below.{packs_hold}
use Rattle.store_laws.proofs.Holdings.Holding.{late_brings_nothing}
use Rattle.store_laws.proofs.Users.Staying.{boots_stay, calls_stay, opens_stay, descriptors_stay}
use Rattle.store_laws.proofs.Users.Caching.{cache_told}
use Rattle.store_laws.proofs.Users.Views.{users_stay}
use Rattle.store_laws.proofs.Holding.{copies_stay}
use Rattle.store_laws.proofs.Pulls.{all_pulls_stay}
use Rattle.store_laws.proofs.Staying.{store_stays}
use Rattle.tree_laws.specs.Syncs.Staying.{Starts, Looks, Names, Releases, Adopts, TouchesTable, BringsNothing}
use Rattle.tree_laws.proofs.Syncs.Staying.{table_stays}
use Rattle.store_laws.specs.Pulling.{AdoptsFile}
use Rattle.store_laws.specs.OneTree.Rest.{Comes, more}
use Rattle.store_laws.proofs.OneTree.NewVersions.{new_not_below}
use Rattle.store_laws.proofs.OneTree.Staying.{rest_below, stays}

all_stay : (c : Config) (n : ℕ) (x : Told) (older : List Line) → Comes c older x → AllStay c older (more n x older) x
all_stay c n x older k = (stays c).all n x older k

-- ---- using sites ----

pub users_frame : (c : Config) (n : ℕ) (x : Told) (older : List Line) (f : Frame) (u : Users) → Comes c older x → FrameFact c older f → (IsOfUsers f.me x → ⊥) → (IsOfSite f.me x → ⊥) → UsersInside c f older u → UsersInside c f (more n x older) u
users_frame c n x older f u k frame no_users no_site h = users_stay c n x older f u k.past.followed k.may (all_stay c n x older k) frame no_users no_site h

pub outside_frame : (c : Config) (n : ℕ) (x : Told) (older : List Line) (me boot : ℕ) (u : Users) → Comes c older x → (IsOfUsers me x → ⊥) → (IsOfSite me x → ⊥) → UsersFact c older me boot u → UsersFact c (more n x older) me boot u
outside_frame c n x older me boot u k no_users no_site h = record {
  boot_is = h.boot_is ∙ sym (boots_stay n me x older no_site);
  calls = h.calls ∙ sym (calls_stay n me x older no_users no_site);
  serials = h.serials ∙ sym (opens_stay c n me x older no_users no_site);
  descriptors = λ process fd low. h.descriptors process fd low ∙ sym (descriptors_stay n me process fd x older no_users no_site);
  ascends = h.ascends;
  cache = cache_told c n x older (all_stay c n x older k).fresh u.cache h.cache;
}

-- of a site that has just booted
abbrev pub no_users : Users
no_users = record { calls = 0; serials = 0; waiting = []; instances = []; descriptors = []; hopeless = []; cache = [] }

pub first_users : (c : Config) (me : ℕ) → UsersFact c [] me 1 no_users
first_users c me = record { boot_is = refl; calls = refl; serials = refl; descriptors = λ process fd low. refl; ascends = tt; cache = tt }

cond_own : {A : Type 0} (s : ℕ) (x y : A) → cond (s == s) x y ≡ x
cond_own s x y = over (s == s) (equal_self s)
  where
    over : (b : Bool) → b ≡ true → cond b x y ≡ x
    over true e = refl
    over false e = absurd (cc)

pub booted_users : (c : Config) (n me boot : ℕ) (trace : List Line) → ((process fd : ℕ) → descriptor (entries trace) me process fd ≡ None) → UsersFact c (more n (Shown (says.Up me boot)) trace) me boot no_users
booted_users c n me boot trace none = record {
  boot_is = sym (cond_own me boot (boot_of (entries trace) me));
  calls = sym (cond_own me 0 (calls_accepted (entries trace) me));
  serials = sym (cond_own me 0 (opens_asked c trace me));
  descriptors = λ process fd low. sym (none process fd);
  ascends = tt;
  cache = tt;
}

-- ---- storage sites ----

pub store_frame : (c : Config) (n : ℕ) (x : Told) (older : List Line) (f : Frame) (s : Store) → Comes c older x → ((e : EpochId) → IsOfStore older f.me e x → ⊥) → (IsAdopted f.me x → ⊥) → StoreHeld c f older s → StoreHeld c f (more n x older) s
store_frame c n x older f s k away unadopted h = store_stays c n x older k.past.rest.packs k.past.followed k.may (all_stay c n x older k) f s (away f.epoch) unadopted h

pub copies_frame : (c : Config) (n : ℕ) (x : Told) (older : List Line) (me : ℕ) (s : Store) → Comes c older x → ((e : EpochId) → IsOfStore older me e x → ⊥) → (IsAdopted me x → ⊥) → CopiesAreHeld c older me s → CopiesAreHeld c (more n x older) me s
copies_frame c n x older me s k away unadopted h = copies_stay c n x older k.past.followed k.may (all_stay c n x older k) me no_epoch s (away no_epoch) unadopted h

-- pulls of other files than one that is adopted
pub pulls_beside : (c : Config) (n : ℕ) (x : Told) (older : List Line) (f : Frame) (ps : List Pull) → Comes c older x → Every (λ (p : Pull). AdoptsFile f.me p.file x → ⊥) ps → PullsFact c f older ps → PullsFact c f (more n x older) ps
pulls_beside c n x older f ps k away h = all_pulls_stay c n x older k.past.followed k.may (all_stay c n x older k) (new_not_below c n x older k) f ps away h

pub adopts_of : (me : ℕ) (file : FileId) (x : Told) → AdoptsFile me file x → IsAdopted me x
adopts_of me file (Shown r) h = by_record r h
  where
    by_record : (r : Record) → AdoptsFile me file (Shown r) → IsAdopted me (Shown r)
    by_record (says.Adopt g site stamp) h = h.1
    by_record _ h = absurd h
adopts_of me file _ h = absurd h

pub pulls_frame : (c : Config) (n : ℕ) (x : Told) (older : List Line) (f : Frame) (ps : List Pull) → Comes c older x → (IsAdopted f.me x → ⊥) → PullsFact c f older ps → PullsFact c f (more n x older) ps
pulls_frame c n x older f ps k unadopted h = pulls_beside c n x older f ps k (away ps) h
  where
    away : (qs : List Pull) → Every (λ (p : Pull). AdoptsFile f.me p.file x → ⊥) qs
    away [] = tt
    away (q ∷ qs) = ((λ a. unadopted (adopts_of f.me q.file x a)), away qs)

-- ---- synchronization sites ----

brings_record : (c : Config) (n : ℕ) (r : Record) (older : List Line) → Comes c older (Shown r) → LawsBelow c older → BringsNothing c older (more n (Shown r) older) (Shown r)
brings_record c n (says.Join z d m) older k laws = λ f started. late_brings_nothing c (entries older) laws.packs (followed_rows c older k.past.followed) (packs_hold c older laws.packed) n z d m k.may.row d z f started
brings_record c n _ older k laws = tt

brings_nothing : (c : Config) (n : ℕ) (x : Told) (older : List Line) → Comes c older x → LawsBelow c older → BringsNothing c older (more n x older) x
brings_nothing c n (Shown r) older k laws = brings_record c n r older k laws
brings_nothing c n _ older k laws = tt

starts_record : (f : Frame) (group : ℕ) (r : Record) → Starts f group (Shown r) → IsOfTable f group (Shown r)
starts_record f group (says.Start at g copies) h = h
starts_record f group _ h = absurd h

looks_record : (f : Frame) (group : ℕ) (r : Record) → Looks f group (Shown r) → IsOfTable f group (Shown r)
looks_record f group (says.Look at call request file what result) h = h
looks_record f group _ h = absurd h

names_record : (f : Frame) (group : ℕ) (r : Record) → Names f group (Shown r) → IsOfTable f group (Shown r)
names_record f group (says.Grant at call request i m file stamp ss) h = h
names_record f group (says.Refuse at call request i m file why) h = h
names_record f group _ h = absurd h

ends_record : (f : Frame) (group : ℕ) (r : Record) → Releases f group (Shown r) → IsOfTable f group (Shown r)
ends_record f group (says.Release at i file stamp) h = h
ends_record f group _ h = absurd h

adopts_record : (f : Frame) (group : ℕ) (r : Record) → Adopts f group (Shown r) → IsAdopted f.me (Shown r)
adopts_record f group (says.Adopt file site stamp) h = h.0
adopts_record f group _ h = absurd h

touches : (f : Frame) (group : ℕ) (x : Told) → TouchesTable f group x → IsOfTable f group x ⊎ IsAdopted f.me x
touches f group (Shown r) (inl h) = inl (starts_record f group r h)
touches f group (Shown r) (inr (inl h)) = inl (looks_record f group r h)
touches f group (Shown r) (inr (inr (inl h))) = inl (names_record f group r h)
touches f group (Shown r) (inr (inr (inr (inl h)))) = inl (ends_record f group r h)
touches f group (Shown r) (inr (inr (inr (inr h)))) = inr (adopts_record f group r h)
touches f group _ (inl h) = absurd h
touches f group _ (inr (inl h)) = absurd h
touches f group _ (inr (inr (inl h))) = absurd h
touches f group _ (inr (inr (inr (inl h)))) = absurd h
touches f group _ (inr (inr (inr (inr h)))) = absurd h

pub table_frame : (c : Config) (n : ℕ) (x : Told) (older : List Line) (f : Frame) (t : SyncTable) → Comes c older x → (IsOfTable f t.group x → ⊥) → (IsAdopted f.me x → ⊥) → TableFact c older f t → TableFact c (more n x older) f t
table_frame c n x older f t k apart unadopted h =
    table_stays c n x older k.past.followed k.may (record { stay = all_stay c n x older k; packs = k.past.rest.packs; nothing = brings_nothing c n x older k (rest_below c older k.past.rest) }) f t h (λ q. none (touches f t.group x q))
  where
    none : IsOfTable f t.group x ⊎ IsAdopted f.me x → ⊥
    none (inl q) = apart q
    none (inr q) = unadopted q
