-- A site that doesn't run has no call that waits, no epoch and no descriptor; so a site that has just booted counts nothing.
use Rattle.std.proofs.Common.{◌≡◌, ℕ, ◌==◌, Bool, true, false, not, cond, ◌&&◌, ◌||◌, List, [], ◌∷◌, Option, Some, None, refl, sym, ◌∙◌, ap, subst, filter}
use Rattle.role_steps.proofs.of_plain_facts.Numbers.{equal, equal_self}
use Rattle.role_steps.proofs.of_plain_facts.Options.{none_some}
use Rattle.role_steps.proofs.of_plain_facts.Tests.{true_false}
use Rattle.locus_ids.specs.declared.config.Config.{Config}
use Rattle.locus_ids.specs.declared.ids.CallId.{CallId}
use Rattle.locus_ids.specs.declared.ids.EpochId.{EpochId}
use Rattle.trace_book.specs.Same.{same_call}
use Rattle.trace_book.specs.declared.call.Call.{Call}
use Rattle.trace_book.specs.declared.call.Call.TheVariants as call
use Rattle.trace_book.specs.declared.descriptor.Descriptor.{Descriptor}
use Rattle.trace_book.specs.declared.record.Record.{Record}
use Rattle.trace_book.specs.declared.record.StopCause.{StopCause}
use Rattle.trace_book.specs.declared.record.Record.TheVariants as says
use Rattle.role_steps.specs.Own.{Every}
use Rattle.role_steps.specs.Views.{Users, Told, Shown}
use Rattle.tree_laws.specs.of_the_run.Worlds.{Line}
use Rattle.tree_model.specs.declared.accepted.Waiting.{Waiting}
use Rattle.tree_model.specs.Calls.{opening_of, waiting}
use Rattle.tree_model.specs.Epochs.{boot_of, calls_accepted, epoch_of, is_up}
use Rattle.tree_model.specs.Folds.{Trace}
use Rattle.tree_laws.specs.of_lawful_trace.CallRows.{CallRow, is_this}
use Rattle.tree_laws.specs.of_lawful_trace.Lawful.{MayCome}
use Rattle.tree_laws.specs.of_lawful_trace.Tables.{closed_by, opened_by, descriptor}
use Rattle.tree_laws.specs.Printed.{entries, onto_entries}
use Rattle.tree_laws.specs.Following.{MayTell, IsFollowed}
use Rattle.tree_laws.specs.Frames.{IsFresh}
use Rattle.tree_laws.specs.Serials.{opens_asked}
use Rattle.tree_laws.specs.Users.{UsersFact}
use Rattle.tree_laws.proofs.Boots.{every_filter, every_passes, found_every}
use Rattle.tree_laws.specs.Doing.{IsOfUsers, IsOfSite}
use Rattle.store_laws.specs.Users.Booting.{no_users}
use Rattle.store_laws.proofs.Users.Caching.{cache_told}
use Rattle.store_laws.proofs.Users.Staying.{boots_stay, calls_stay, opens_stay, descriptors_stay}

abbrev More : ℕ → Record → Trace → Trace
More n r before = record { line = n; what = r } ∷ before

abbrev NotAt : ℕ → Waiting → Type 0
NotAt s w = w.site ≡ s → ⊥

-- what a site has that doesn't run
record IsDown (before : Trace) (s : ℕ) : Type 0 where
  waits : Every (NotAt s) (waiting before)
  epoch : epoch_of before s ≡ None
  descriptors : (process fd : ℕ) → descriptor before s process fd ≡ None

abbrev AllDown : Config → Trace → Type 0
AllDown c before = (s : ℕ) → is_up c before s ≡ false → IsDown before s

runs : (c : Config) (before : Trace) (s process : ℕ) (d : CallId) (words : Call) → AllDown c before → CallRow c before s process d words → is_up c before s ≡ false → ⊥
runs c before s process d (call.Mend file) k row down = none_some row.epoch (sym (k s down).epoch ∙ row.inside)
runs c before s process d _ k row down = true_false (sym row.up ∙ down)

down_accept : (c : Config) (n s process : ℕ) (d : CallId) (words : Call) (before : Trace) → CallRow c before s process d words → AllDown c before → AllDown c (More n (says.Accept s process d words) before)
down_accept c n s process d words before row k t down = record {
  waits = ((λ (same : s ≡ t). runs c before s process d words k row (subst (λ (m : ℕ). is_up c before m ≡ false) (sym same) down)), (k t down).waits);
  epoch = (k t down).epoch;
  descriptors = λ user fd. over ((s == t) && (process == user)) words fd ((k t down).descriptors user fd);
}
  where
    closed : (words : Call) (fd : ℕ) (old : Option Descriptor) → old ≡ None → closed_by words fd old ≡ None
    closed (call.Close m) fd old e = at (m == fd) e
      where
        at : (b : Bool) → old ≡ None → cond b None old ≡ None
        at true e = refl
        at false e = e
    closed _ fd old e = e

    over : (b : Bool) (words : Call) (fd : ℕ) {old : Option Descriptor} → old ≡ None → cond b (closed_by words fd old) old ≡ None
    over true words fd {old} e = closed words fd old e
    over false words fd e = e

down_stop : (c : Config) (n s : ℕ) (cause : StopCause) (before : Trace) → AllDown c before → AllDown c (More n (says.Stopped s cause) before)
down_stop c n s cause before k t = at (s == t) refl
  where
    apart : (x : Waiting) → not (x.site == s) ≡ true → NotAt s x
    apart x p same = true_false (sym p ∙ ap not (subst (λ (m : ℕ). (m == s) ≡ true) (sym same) (equal_self s)))

    at : (b : Bool) → (s == t) ≡ b → not b && is_up c before t ≡ false → IsDown (More n (says.Stopped s cause) before) t
    at true e down = record {
      waits = subst (λ (m : ℕ). Every (NotAt m) (filter (λ (x : Waiting). not (x.site == s)) (waiting before))) (equal s t e) (every_passes (NotAt s) (λ (x : Waiting). not (x.site == s)) apart (waiting before));
      epoch = ap (λ (b : Bool). cond b None (epoch_of before t)) e;
      descriptors = λ process fd. ap (λ (b : Bool). cond b None (descriptor before t process fd)) e;
    }
    at false e down = record {
      waits = every_filter (NotAt t) (λ (x : Waiting). not (x.site == s)) (waiting before) (k t down).waits;
      epoch = ap (λ (b : Bool). cond b None (epoch_of before t)) e ∙ (k t down).epoch;
      descriptors = λ process fd. ap (λ (b : Bool). cond b None (descriptor before t process fd)) e ∙ (k t down).descriptors process fd;
    }

down_up : (c : Config) (n s boot : ℕ) (before : Trace) → AllDown c before → AllDown c (More n (says.Up s boot) before)
down_up c n s boot before k t = at (s == t) refl
  where
    at : (b : Bool) → (s == t) ≡ b → b || is_up c before t ≡ false → IsDown (More n (says.Up s boot) before) t
    at true e down = absurd (true_false down)
    at false e down = record { waits = (k t down).waits; epoch = ap (λ (b : Bool). cond b None (epoch_of before t)) e ∙ (k t down).epoch; descriptors = (k t down).descriptors }

down_record : (c : Config) (n : ℕ) (r : Record) (before : Trace) → MayCome c before r → AllDown c before → AllDown c (More n r before)
down_record c n (says.Accept s process d words) before may k = down_accept c n s process d words before may k
down_record c n (says.Stopped s cause) before may k = down_stop c n s cause before k
down_record c n (says.Up s boot) before may k = down_up c n s boot before k
down_record c n (says.Join s e members) before may k = λ t down. record { waits = (k t down).waits; epoch = at t down (s == t) refl; descriptors = (k t down).descriptors }
  where
    at : (t : ℕ) → is_up c before t ≡ false → (b : Bool) → (s == t) ≡ b → cond b (Some e) (epoch_of before t) ≡ None
    at t down true p = absurd (true_false (sym (subst (λ (m : ℕ). is_up c before m ≡ true) (equal s t p) may.up) ∙ down))
    at t down false p = (k t down).epoch
down_record c n (says.Leave s e) before may k = λ t down. record { waits = (k t down).waits; epoch = at (s == t) (epoch_of before t) (k t down).epoch; descriptors = (k t down).descriptors }
  where
    at : (b : Bool) (o : Option EpochId) → o ≡ None → cond b None o ≡ None
    at true o e = refl
    at false o e = e
down_record c n (says.Answer s process d reply) before may k = λ t down. record {
  waits = every_filter (NotAt t) (λ (x : Waiting). not (same_call x.call d)) (waiting before) (k t down).waits;
  epoch = (k t down).epoch;
  descriptors = λ user fd. at t down (s == t) refl user fd;
}
  where
    first : (p q b : Bool) → (p && q && b) ≡ true → p ≡ true
    first true q b z = refl
    first false q b z = absurd (true_false (sym z))

    found : (t : ℕ) → is_up c before t ≡ false → NotAt t may.caller × (is_this s process d may.caller ≡ true)
    found t down = found_every (NotAt t) (is_this s process d) (waiting before) may.caller may.waits (k t down).waits

    at : (t : ℕ) → is_up c before t ≡ false → (b : Bool) → (s == t) ≡ b → (user fd : ℕ) → cond (b && (process == user)) (opened_by reply before d fd (descriptor before t user fd)) (descriptor before t user fd) ≡ None
    at t down true p user fd = absurd ((found t down).0 (equal may.caller.site s (first (may.caller.site == s) (may.caller.process == process) (same_call may.caller.call d) (found t down).1) ∙ equal s t p))
    at t down false p user fd = (k t down).descriptors user fd
down_record c n _ before may k = λ t down. record { waits = (k t down).waits; epoch = (k t down).epoch; descriptors = (k t down).descriptors }

down_told : (c : Config) (n : ℕ) (x : Told) (older : List Line) → MayTell c older x → AllDown c (entries older) → AllDown c (onto_entries n x (entries older))
down_told c n (Shown r) older may k = down_record c n r (entries older) may.row k
down_told c n _ older may k = k

all_down : (c : Config) (t : List Line) → IsFollowed c t → AllDown c (entries t)
all_down c [] h s down = absurd (true_false down)
all_down c (x ∷ older) h s down = down_told c x.number x.told older h.0 (all_down c older h.1) s down

-- ---- a site that has just booted ----

pub first_users : (c : Config) (me : ℕ) → UsersFact c [] me 1 no_users
first_users c me = record { boot_is = refl; calls = refl; serials = refl; descriptors = λ process fd lt. refl; ascends = tt; cache = tt }

pub booted_users : (c : Config) (n me boot : ℕ) (older : List Line) → IsFollowed c older → MayTell c older (Shown (says.Up me boot)) → UsersFact c (record { number = n; told = Shown (says.Up me boot) } ∷ older) me boot no_users
booted_users c n me boot older h may = record {
  boot_is = sym (ap (λ (b : Bool). cond b boot (boot_of (entries older) me)) (equal_self me));
  calls = sym (ap (λ (b : Bool). cond b 0 (calls_accepted (entries older) me)) (equal_self me));
  serials = sym (ap (λ (b : Bool). cond b 0 (opens_asked c older me)) (equal_self me));
  descriptors = λ process fd lt. sym ((all_down c older h me may.row.stopped).descriptors process fd);
  ascends = tt;
  cache = tt;
}

-- what a site in no epoch counts stays when somebody else tells a line
pub outside_stays : (c : Config) (n : ℕ) (x : Told) (older : List Line) (me boot : ℕ) (u : Users) → IsFresh c older x → (IsOfUsers me x → ⊥) → (IsOfSite me x → ⊥) → UsersFact c older me boot u → UsersFact c (record { number = n; told = x } ∷ older) me boot u
outside_stays c n x older me boot u fresh away calm k = record {
  boot_is = k.boot_is ∙ sym (boots_stay n me x older calm);
  calls = k.calls ∙ sym (calls_stay n me x older away calm);
  serials = k.serials ∙ sym (opens_stay c n me x older away calm);
  descriptors = λ process fd lt. k.descriptors process fd lt ∙ sym (descriptors_stay n me process fd x older away calm);
  ascends = k.ascends;
  cache = cache_told c n x older fresh u.cache k.cache;
}
