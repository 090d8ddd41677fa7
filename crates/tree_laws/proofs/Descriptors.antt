-- What a descriptor stands for was granted to a call of its process; so who uses or closes an instance by a descriptor is a
-- call of the process that it was granted to, made in its epoch.
use Rattle.std.proofs.Common.{◌≡◌, ℕ, ◌==◌, Bool, true, false, not, cond, ◌&&◌, ◌||◌, List, [], ◌∷◌, Option, Some, None, refl, sym, ◌∙◌, ap, subst}
use Rattle.the_run.proofs.of_plain_facts.Numbers.{equal}
use Rattle.the_run.proofs.of_plain_facts.Options.{none_some, some_same}
use Rattle.the_run.proofs.of_plain_facts.Tests.{true_false}
use Rattle.locus_ids.specs.declared.config.Config.{Config}
use Rattle.locus_ids.specs.declared.ids.CallId.{CallId}
use Rattle.locus_ids.specs.declared.ids.EpochId.{EpochId}
use Rattle.locus_ids.specs.declared.ids.Serial.{Serial}
use Rattle.locus_ids.specs.declared.refusal.Refusal.{Refusal}
use Rattle.locus_ids.specs.declared.refusal.Refusal.TheVariants as refusal
use Rattle.commit_graph.specs.Grants.{is_read}
use Rattle.trace_book.specs.Same.{same_call, same_epoch, same_serial}
use Rattle.trace_book.specs.declared.call.Call.{Call}
use Rattle.trace_book.specs.declared.call.Call.TheVariants as call
use Rattle.trace_book.specs.declared.descriptor.Beginning.{Beginning}
use Rattle.trace_book.specs.declared.descriptor.Beginning.TheVariants as begins
use Rattle.trace_book.specs.declared.descriptor.Descriptor.{Descriptor}
use Rattle.trace_book.specs.declared.descriptor.OneVersion.{OneVersion}
use Rattle.trace_book.specs.declared.record.Record.{Record}
use Rattle.trace_book.specs.declared.record.Record.TheVariants as says
use Rattle.trace_book.specs.declared.reply.Reply.{Reply}
use Rattle.trace_book.specs.declared.reply.Reply.TheVariants as reply
use Rattle.call_rules.specs.Descriptors.{is_in, held_or, stale_or, begins_again, begins_read, begins_close, begins_change, begins_walk, begins_open, beginning, lowest_free}
use Rattle.call_rules.specs.Words.{is_too_long}
use Rattle.the_run.specs.of_role_steps.Own.{Every}
use Rattle.the_run.specs.of_role_steps.Views.{Told, Shown}
use Rattle.the_run.specs.Worlds.{Line}
use Rattle.lawful_trace.specs.of_tree_model.declared.accepted.Waiting.{Waiting}
use Rattle.lawful_trace.specs.of_tree_model.Calls.{call_named, accepted_as, granted_to, opening_of, waiting}
use Rattle.lawful_trace.specs.of_tree_model.Epochs.{epoch_of}
use Rattle.lawful_trace.specs.of_tree_model.Folds.{Trace}
use Rattle.lawful_trace.specs.CallRows.{is_this}
use Rattle.lawful_trace.specs.Tables.{begins_now, closed_by, opened_by, descriptor, is_close, uses_by, is_opening, uses_of, close_of, names_instance, has_named}
use Rattle.lawful_trace.specs.TreeRows.{IsCallIn}
use Rattle.tree_laws.specs.Printed.{entries, onto_entries}
use Rattle.tree_laws.specs.Following.{MayTell, IsFollowed}
use Rattle.tree_laws.specs.Processes.{IsMend}
use Rattle.tree_laws.proofs.Boots.{every_both, found_every}
use Rattle.tree_laws.proofs.Fresh.{numbered}
use Rattle.tree_laws.proofs.Naming.{IsNamedBy, all_opening, named_granted, open_inside, opened_left}
use Rattle.tree_laws.proofs.Names.{same_call_eq, same_call_own, same_epoch_eq, same_serial_eq}
use Rattle.tree_laws.proofs.Owners.{granted_same, named_more}
use Rattle.tree_laws.proofs.Scripts.{named_stays}
use Rattle.tree_laws.proofs.Waiting.{accepted}

abbrev With : ℕ → Record → Trace → Trace
With n r before = record { line = n; what = r } ∷ before

-- ---- descriptors ----

-- the instance was granted to a call of this process
pub record GrantedFor (before : Trace) (e : EpochId) (i : Serial) (s process : ℕ) : Type 0 where
  pub granted : CallId
  pub is_granted : granted_to before e i ≡ Some granted
  pub caller : Waiting
  pub named : call_named before granted ≡ Some caller
  pub site_is : caller.site ≡ s
  pub process_is : caller.process ≡ process
  -- the call was answered by a descriptor, or by what it has read of a version that it has opened again
  pub answered : has_named before granted ≡ true

for_stays : (c : Config) (older : List Line) (n : ℕ) (r : Record) (e : EpochId) (i : Serial) (s process : ℕ) → IsFollowed c older → MayTell c older (Shown r) → GrantedFor (entries older) e i s process → GrantedFor (With n r (entries older)) e i s process
for_stays c older n r e i s process h may g = record {
  granted = g.granted;
  is_granted = granted_same c older n r e i g.granted may g.is_granted;
  caller = g.caller;
  named = named_stays c n (Shown r) older g.granted h may (g.caller, g.named) ∙ g.named;
  site_is = g.site_is;
  process_is = g.process_is;
  answered = named_more n r (entries older) g.granted g.answered;
}

abbrev AllStandFor : Trace → Type 0
AllStandFor before = (s process fd : ℕ) (x : Descriptor) → descriptor before s process fd ≡ Some x → GrantedFor before x.epoch x.inst s process

pub closed_left : (words : Call) (fd : ℕ) (old : Option Descriptor) (x : Descriptor) → closed_by words fd old ≡ Some x → old ≡ Some x
closed_left (call.Close n) fd old x h = over (n == fd) h
  where
    over : (b : Bool) → cond b None old ≡ Some x → old ≡ Some x
    over true k = absurd (none_some x k)
    over false k = k
closed_left _ fd old x h = h

parts : (a b c : Bool) → (a && b && c) ≡ true → (a ≡ true) × ((b ≡ true) × (c ≡ true))
parts true true true t = (refl, (refl, refl))
parts true true false t = absurd (true_false (sym t))
parts true false c t = absurd (true_false (sym t))
parts false b c t = absurd (true_false (sym t))

-- the call has named what was granted to it
answered_names : (before : Trace) (n s process : ℕ) (d : CallId) (r : Reply) → names_instance r ≡ true → has_named (With n (says.Answer s process d r) before) d ≡ true
answered_names before n s process d r o = ap (λ (b : Bool). b && names_instance r || has_named before d) (same_call_own d) ∙ ap (λ (b : Bool). b || has_named before d) o

stand_answer : (c : Config) (older : List Line) (n s process : ℕ) (d : CallId) (r : Reply) → IsFollowed c older → MayTell c older (Shown (says.Answer s process d r)) → AllStandFor (entries older) → AllStandFor (With n (says.Answer s process d r) (entries older))
stand_answer c older n s process d r h may k site user fd x e = over (s == site) (process == user) refl refl e
  where
    found : (call_named (entries older) may.row.caller.call ≡ Some may.row.caller) × (is_this s process d may.row.caller ≡ true)
    found = found_every (λ (w : Waiting). call_named (entries older) w.call ≡ Some w) (is_this s process d) (waiting (entries older)) may.row.caller may.row.waits (accepted c older h).waits

    is : (may.row.caller.site == s ≡ true) × ((may.row.caller.process == process ≡ true) × (same_call may.row.caller.call d ≡ true))
    is = parts (may.row.caller.site == s) (may.row.caller.process == process) (same_call may.row.caller.call d) found.1

    new : (s == site) ≡ true → (process == user) ≡ true → IsNamedBy (entries older) d r fd x → GrantedFor (With n (says.Answer s process d r) (entries older)) x.epoch x.inst site user
    new p q o = record {
      granted = d;
      is_granted = granted_same c older n (says.Answer s process d r) x.epoch x.inst d may (named_granted c older h d r fd x o);
      caller = may.row.caller;
      named = ap (call_named (entries older)) (sym (same_call_eq may.row.caller.call d is.1.1)) ∙ found.0;
      site_is = equal may.row.caller.site s is.0 ∙ equal s site p;
      process_is = equal may.row.caller.process process is.1.0 ∙ equal process user q;
      answered = answered_names (entries older) n s process d r o.names;
    }

    at : GrantedFor (entries older) x.epoch x.inst site user → GrantedFor (With n (says.Answer s process d r) (entries older)) x.epoch x.inst site user
    at g = for_stays c older n (says.Answer s process d r) x.epoch x.inst site user h may g

    over : (a b : Bool) → (s == site) ≡ a → (process == user) ≡ b → cond (a && b) (opened_by r (entries older) d fd (descriptor (entries older) site user fd)) (descriptor (entries older) site user fd) ≡ Some x → GrantedFor (With n (says.Answer s process d r) (entries older)) x.epoch x.inst site user
    over true true p q o = opened_left r (entries older) d fd (descriptor (entries older) site user fd) x (GrantedFor (With n (says.Answer s process d r) (entries older)) x.epoch x.inst site user) (new p q) (λ m. at (k site user fd x m)) o
    over true false p q o = at (k site user fd x o)
    over false b p q o = at (k site user fd x o)

stand_record : (c : Config) (older : List Line) (n : ℕ) (r : Record) → IsFollowed c older → MayTell c older (Shown r) → AllStandFor (entries older) → AllStandFor (With n r (entries older))
stand_record c older n (says.Accept s process new words) h may k site user fd x e = for_stays c older n (says.Accept s process new words) x.epoch x.inst site user h may (k site user fd x (over ((s == site) && (process == user)) e))
  where
    over : (b : Bool) → cond b (closed_by words fd (descriptor (entries older) site user fd)) (descriptor (entries older) site user fd) ≡ Some x → descriptor (entries older) site user fd ≡ Some x
    over true o = closed_left words fd (descriptor (entries older) site user fd) x o
    over false o = o
stand_record c older n (says.Answer s process d r) h may k site user fd x e = stand_answer c older n s process d r h may k site user fd x e
stand_record c older n (says.Stopped s cause) h may k site user fd x e = for_stays c older n (says.Stopped s cause) x.epoch x.inst site user h may (k site user fd x (over (s == site) e))
  where
    over : (b : Bool) → cond b None (descriptor (entries older) site user fd) ≡ Some x → descriptor (entries older) site user fd ≡ Some x
    over true o = absurd (none_some x o)
    over false o = o
stand_record c older n r h may k site user fd x e = for_stays c older n r x.epoch x.inst site user h may (k site user fd x e)

stand_told : (c : Config) (older : List Line) (n : ℕ) (x : Told) → IsFollowed c older → MayTell c older x → AllStandFor (entries older) → AllStandFor (onto_entries n x (entries older))
stand_told c older n (Shown r) h may k = stand_record c older n r h may k
stand_told c older n _ h may k = k

-- a descriptor of a process stands for an instance that was granted to a call of it
pub stand_for : (c : Config) (trace : List Line) → IsFollowed c trace → (s process fd : ℕ) (x : Descriptor) → descriptor (entries trace) s process fd ≡ Some x → GrantedFor (entries trace) x.epoch x.inst s process
stand_for c [] h s process fd x e = absurd (none_some x e)
stand_for c (x ∷ older) h s process fd stands e = stand_told c older x.number x.told h.1 h.0 (stand_for c older h.1) s process fd stands e

-- ---- which call uses a descriptor ----

-- the call is no mend
abbrev pub IsPlain : Call → Type 0
IsPlain (call.Mend file) = ⊥
IsPlain _ = Unit {0}

-- a close is of this number
abbrev pub ClosesNumber : Call → ℕ → Type 0
ClosesNumber (call.Close n) fd = n ≡ fd
ClosesNumber _ fd = Unit {0}

-- the call begins at a descriptor, which stands for the instance in the epoch that the site is in
pub record FromDescriptor (table : ℕ → Option Descriptor) (now : Option EpochId) (words : Call) (e : EpochId) (i : Serial) : Type 0 where
  pub fd : ℕ
  pub stands : Descriptor
  pub found : table fd ≡ Some stands
  pub epoch_is : stands.epoch ≡ e
  pub serial_is : stands.inst ≡ i
  pub inside : now ≡ Some e
  pub plain : IsPlain words
  pub closes : ClosesNumber words fd

denied_uses : (why : Refusal) (e : EpochId) (i : Serial) → begins.Denied why ≡ begins.Uses e i → ⊥
denied_uses why e i k = cc

uses_epoch : (e g : EpochId) (i j : Serial) → begins.Uses e i ≡ begins.Uses g j → e ≡ g
uses_epoch e g i j k = cc

uses_serial : (e g : EpochId) (i j : Serial) → begins.Uses e i ≡ begins.Uses g j → i ≡ j
uses_serial e g i j k = cc

walk_uses : (id : CallId) (now : Option EpochId) (e : EpochId) (i : Serial) → begins_walk now id ≡ begins.Uses e i → ⊥
walk_uses id None e i k = cc
walk_uses id (Some at) e i k = cc

open_uses : (id : CallId) (now : Option EpochId) (free : Option ℕ) (e : EpochId) (i : Serial) → begins_open now id free ≡ begins.Uses e i → ⊥
open_uses id now None e i k = cc
open_uses id now (Some fd) e i k = walk_uses id now e i k

in_now : (now : Option EpochId) (e : EpochId) → is_in now e ≡ true → now ≡ Some e
in_now None e t = absurd (true_false (sym t))
in_now (Some at) e t = ap Some (same_epoch_eq at e t)

frees_uses : (e : EpochId) (i : Serial) → begins.Frees ≡ begins.Uses e i → ⊥
frees_uses e i k = cc

-- what isn't held begins at no instance
stale_uses : (steady : OneVersion → Beginning) (last : EpochId) (o : Option OneVersion) (e : EpochId) (i : Serial) → ((v : OneVersion) → steady v ≡ begins.Uses e i → ⊥) → stale_or steady last o ≡ begins.Uses e i → ⊥
stale_uses steady last None e i none k = denied_uses _ e i k
stale_uses steady last (Some v) e i none k = none v k

again_uses : (now : Option EpochId) (last : EpochId) (v : OneVersion) (e : EpochId) (i : Serial) → begins_again now last v ≡ begins.Uses e i → ⊥
again_uses None last v e i k = denied_uses _ e i k
again_uses (Some at) last v e i k = other k
  where
    other : begins.Reopens v last ≡ begins.Uses e i → ⊥
    other m = cc

module _ (table : ℕ → Option Descriptor) (now : Option EpochId) (fd : ℕ) (words : Call) (e : EpochId) (i : Serial) (plain : IsPlain words) (number : ClosesNumber words fd) where
  from_held : (x : Descriptor) → table fd ≡ Some x → is_in now x.epoch ≡ true → begins.Uses x.epoch x.inst ≡ begins.Uses e i → FromDescriptor table now words e i
  from_held x is t u = record { fd = fd; stands = x; found = is; epoch_is = uses_epoch x.epoch e x.inst i u; serial_is = uses_serial x.epoch e x.inst i u; inside = in_now now x.epoch t ∙ ap Some (uses_epoch x.epoch e x.inst i u); plain = plain; closes = number }

  held_uses : (x : Descriptor) → table fd ≡ Some x → (otherwise : Beginning) → (otherwise ≡ begins.Uses e i → ⊥) → held_or now x otherwise ≡ begins.Uses e i → FromDescriptor table now words e i
  held_uses x is otherwise none k = over (is_in now x.epoch) refl k
    where
      over : (b : Bool) → is_in now x.epoch ≡ b → cond b (begins.Uses x.epoch x.inst) otherwise ≡ begins.Uses e i → FromDescriptor table now words e i
      over true t m = from_held x is t m
      over false t m = absurd (none m)

  read_uses : (o : Option Descriptor) → table fd ≡ o → begins_read now o ≡ begins.Uses e i → FromDescriptor table now words e i
  read_uses None is k = absurd (denied_uses _ e i k)
  read_uses (Some x) is k = held_uses x is (stale_or (begins_again now x.epoch) x.epoch x.steady) (stale_uses (begins_again now x.epoch) x.epoch x.steady e i (λ v m. again_uses now x.epoch v e i m)) k

  close_uses : (o : Option Descriptor) → table fd ≡ o → begins_close now o ≡ begins.Uses e i → FromDescriptor table now words e i
  close_uses None is k = absurd (denied_uses _ e i k)
  close_uses (Some x) is k = held_uses x is (stale_or (λ v. begins.Frees) x.epoch x.steady) (stale_uses (λ v. begins.Frees) x.epoch x.steady e i (λ v m. frees_uses e i m)) k

  change_uses : (o : Option Descriptor) → table fd ≡ o → begins_change now o ≡ begins.Uses e i → FromDescriptor table now words e i
  change_uses None is k = absurd (denied_uses _ e i k)
  change_uses (Some x) is k = by x.steady refl
    where
      at : x.steady ≡ None → (a b : Bool) → is_in now x.epoch ≡ a → is_read x.mode ≡ b → FromDescriptor table now words e i
      at s true true p q = absurd (denied_uses _ e i (rw q at (rw p at (rw s at k))))
      at s true false p q = from_held x is p (rw q at (rw p at (rw s at k)))
      at s false b p q = absurd (denied_uses _ e i (rw p at (rw s at k)))

      by : (o : Option OneVersion) → x.steady ≡ o → FromDescriptor table now words e i
      by None s = at s (is_in now x.epoch) (is_read x.mode) refl refl
      by (Some v) s = absurd (denied_uses _ e i (rw s at k))

pub uses_from : (table : ℕ → Option Descriptor) (now : Option EpochId) (id : CallId) (words : Call) (e : EpochId) (i : Serial) → beginning table now id words ≡ begins.Uses e i → FromDescriptor table now words e i
uses_from table now id (call.Open path mode) e i k = absurd (open_uses id now (lowest_free table) e i k)
uses_from table now id (call.Read fd at len) e i k = read_uses table now fd (call.Read fd at len) e i tt tt (table fd) refl k
uses_from table now id (call.Write fd at bytes) e i k = over (is_too_long (call.Write fd at bytes)) k
  where
    over : (b : Bool) → cond b (begins.Denied refusal.TooLong) (begins_change now (table fd)) ≡ begins.Uses e i → FromDescriptor table now (call.Write fd at bytes) e i
    over true m = absurd (denied_uses _ e i m)
    over false m = change_uses table now fd (call.Write fd at bytes) e i tt tt (table fd) refl m
uses_from table now id (call.Cut fd len) e i k = change_uses table now fd (call.Cut fd len) e i tt tt (table fd) refl k
uses_from table now id (call.Commit fd) e i k = change_uses table now fd (call.Commit fd) e i tt tt (table fd) refl k
uses_from table now id (call.Abort fd) e i k = change_uses table now fd (call.Abort fd) e i tt tt (table fd) refl k
uses_from table now id (call.Close fd) e i k = close_uses table now fd (call.Close fd) e i tt refl (table fd) refl k
uses_from table now id (call.Create path sites) e i k = absurd (walk_uses id now e i k)
uses_from table now id (call.MakeDir path) e i k = absurd (walk_uses id now e i k)
uses_from table now id (call.Unlink path) e i k = absurd (walk_uses id now e i k)
uses_from table now id (call.RemoveDir path) e i k = absurd (walk_uses id now e i k)
uses_from table now id (call.Rename path name) e i k = absurd (walk_uses id now e i k)
uses_from table now id (call.List path) e i k = absurd (walk_uses id now e i k)
uses_from table now id (call.Stat path) e i k = absurd (walk_uses id now e i k)
uses_from table now id (call.Mail path bytes) e i k = absurd (walk_uses id now e i k)
uses_from table now id (call.Mails path) e i k = absurd (walk_uses id now e i k)
uses_from table now id (call.Mend file) e i k = absurd (walk_uses id now e i k)

pub uses_is : (b : Beginning) (e : EpochId) (i : Serial) → uses_by b e i ≡ true → b ≡ begins.Uses e i
uses_is (begins.Uses at inst) e i t = over (same_epoch at e) (same_serial inst i) refl refl t
  where
    over : (a b : Bool) → same_epoch at e ≡ a → same_serial inst i ≡ b → a && b ≡ true → begins.Uses at inst ≡ begins.Uses e i
    over true true p q u = ap (λ (x : EpochId). begins.Uses x inst) (same_epoch_eq at e p) ∙ ap (begins.Uses e) (same_serial_eq inst i q)
    over true false p q u = absurd (true_false (sym u))
    over false b p q u = absurd (true_false (sym u))
uses_is (begins.Denied why) e i t = absurd (true_false (sym t))
uses_is (begins.Walks id) e i t = absurd (true_false (sym t))
uses_is (begins.Reopens version last) e i t = absurd (true_false (sym t))
uses_is begins.Frees e i t = absurd (true_false (sym t))

-- ---- who uses an instance ----

-- the call is one of the epoch, no mend, and of the process to which the instance was granted
pub record IsUser (before : Trace) (e : EpochId) (i : Serial) (d : CallId) : Type 0 where
  pub inside : IsCallIn before e d
  pub site_is : inside.accepted.site ≡ d.site
  pub plain : IsPlain inside.accepted.words
  pub for : GrantedFor before e i d.site inside.accepted.process

pub user_stays : (c : Config) (older : List Line) (n : ℕ) (r : Record) (e : EpochId) (i : Serial) (d : CallId) → IsFollowed c older → MayTell c older (Shown r) → IsUser (entries older) e i d → IsUser (With n r (entries older)) e i d
user_stays c older n r e i d h may u = record {
  inside = record { accepted = u.inside.accepted; named = named_stays c n (Shown r) older d h may (u.inside.accepted, u.inside.named) ∙ u.inside.named; made_in = u.inside.made_in };
  site_is = u.site_is;
  plain = u.plain;
  for = for_stays c older n r e i d.site u.inside.accepted.process h may u.for;
}

-- who uses the instance, and who closes it
pub record AreUsers (before : Trace) (e : EpochId) (i : Serial) : Type 0 where
  pub uses : Every (IsUser before e i) (uses_of before e i)
  pub closes : (d : CallId) → close_of before e i ≡ Some d → IsUser before e i d

users_kept : (c : Config) (older : List Line) (n : ℕ) (r : Record) (e : EpochId) (i : Serial) → IsFollowed c older → MayTell c older (Shown r) → uses_of (With n r (entries older)) e i ≡ uses_of (entries older) e i → close_of (With n r (entries older)) e i ≡ close_of (entries older) e i → AreUsers (entries older) e i → AreUsers (With n r (entries older)) e i
users_kept c older n r e i h may same closed k = record {
  uses = subst (λ (xs : List CallId). Every (IsUser (With n r (entries older)) e i) xs) (sym same) (every_both (IsUser (entries older) e i) (IsUser (With n r (entries older)) e i) (uses_of (entries older) e i) (λ d u. user_stays c older n r e i d h may u) k.uses);
  closes = λ d o. user_stays c older n r e i d h may (k.closes d (sym closed ∙ o));
}

-- a call that begins at the instance is a user of it
pub user_accepted : (c : Config) (older : List Line) (n s process : ℕ) (new : CallId) (words : Call) (e : EpochId) (i : Serial) → IsFollowed c older → MayTell c older (Shown (says.Accept s process new words)) → uses_by (begins_now (entries older) s process new words) e i ≡ true → IsUser (With n (says.Accept s process new words) (entries older)) e i new
user_accepted c older n s process new words e i h may t = (let f : FromDescriptor (descriptor (entries older) s process) (epoch_of (entries older) s) words e i = uses_from (descriptor (entries older) s process) (epoch_of (entries older) s) new words e i (uses_is (begins_now (entries older) s process new words) e i t) in record {
  inside = record { accepted = it; named = ap (λ (b : Bool). cond b (Some it) (call_named (entries older) new)) (same_call_own new); made_in = f.inside };
  site_is = sym at_site;
  plain = f.plain;
  for = subst (λ (m : ℕ). GrantedFor (With n r (entries older)) e i m process) (sym at_site) (for_stays c older n r e i s process h may
      (subst (λ (y : EpochId). GrantedFor (entries older) y i s process) f.epoch_is (subst (λ (j : Serial). GrantedFor (entries older) f.stands.epoch j s process) f.serial_is (stand_for c older h s process f.fd f.stands f.found))));
})
  where
    r : Record
    r = says.Accept s process new words

    it : Waiting
    it = accepted_as (entries older) s process new words

    at_site : new.site ≡ s
    at_site = ap (λ (x : CallId). x.site) (numbered c (entries older) s process new words may.row)

users_accept : (c : Config) (older : List Line) (n s process : ℕ) (new : CallId) (words : Call) (e : EpochId) (i : Serial) → IsFollowed c older → MayTell c older (Shown (says.Accept s process new words)) → AreUsers (entries older) e i → AreUsers (With n (says.Accept s process new words) (entries older)) e i
users_accept c older n s process new words e i h may k = record { uses = uses (not (is_close words) && uses_by (begins_now (entries older) s process new words) e i) refl; closes = λ d o. closes d (is_close words && uses_by (begins_now (entries older) s process new words) e i) refl o }
  where
    r : Record
    r = says.Accept s process new words

    stay : Every (IsUser (With n r (entries older)) e i) (uses_of (entries older) e i)
    stay = every_both (IsUser (entries older) e i) (IsUser (With n r (entries older)) e i) (uses_of (entries older) e i) (λ d u. user_stays c older n r e i d h may u) k.uses

    second : (a b : Bool) → a && b ≡ true → b ≡ true
    second true b t = t
    second false b t = absurd (true_false (sym t))

    uses : (b : Bool) → (not (is_close words) && uses_by (begins_now (entries older) s process new words) e i) ≡ b → Every (IsUser (With n r (entries older)) e i) (cond b (new ∷ uses_of (entries older) e i) (uses_of (entries older) e i))
    uses true t = (user_accepted c older n s process new words e i h may (second (not (is_close words)) (uses_by (begins_now (entries older) s process new words) e i) t), stay)
    uses false t = stay

    closes : (d : CallId) (b : Bool) → (is_close words && uses_by (begins_now (entries older) s process new words) e i) ≡ b → cond b (Some new) (close_of (entries older) e i) ≡ Some d → IsUser (With n r (entries older)) e i d
    closes d true t o = subst (IsUser (With n r (entries older)) e i) (some_same new d o) (user_accepted c older n s process new words e i h may (second (is_close words) (uses_by (begins_now (entries older) s process new words) e i) t))
    closes d false t o = user_stays c older n r e i d h may (k.closes d o)

plain_words : (words : Call) → (IsMend words → ⊥) → IsPlain words
plain_words (call.Mend file) k = k tt
plain_words _ k = tt

pub opening_is : (o : Option Descriptor) (e : EpochId) (i : Serial) → is_opening o e i ≡ true → (x : Descriptor) × (o ≡ Some x) × (x.epoch ≡ e) × (x.inst ≡ i)
opening_is None e i t = absurd (true_false (sym t))
opening_is (Some x) e i t = over (same_epoch x.epoch e) (same_serial x.inst i) refl refl t
  where
    over : (a b : Bool) → same_epoch x.epoch e ≡ a → same_serial x.inst i ≡ b → a && b ≡ true → (y : Descriptor) × (◌≡◌ {A = Option Descriptor} (Some x) (Some y)) × (y.epoch ≡ e) × (y.inst ≡ i)
    over true true p q u = (x, refl, same_epoch_eq x.epoch e p, same_serial_eq x.inst i q)
    over true false p q u = absurd (true_false (sym u))
    over false b p q u = absurd (true_false (sym u))

-- a read that has opened a version again is the first user of what it has opened
users_read : (c : Config) (older : List Line) (n s process : ℕ) (d : CallId) (bytes : List ℕ) (e : EpochId) (i : Serial) → IsFollowed c older → MayTell c older (Shown (says.Answer s process d (reply.Data bytes))) → AreUsers (entries older) e i → AreUsers (With n (says.Answer s process d (reply.Data bytes)) (entries older)) e i
users_read c older n s process d bytes e i h may k = record { uses = uses (is_opening (opening_of (entries older) d) e i) refl; closes = λ g o. user_stays c older n r e i g h may (k.closes g o) }
  where
    r : Record
    r = says.Answer s process d (reply.Data bytes)

    stay : Every (IsUser (With n r (entries older)) e i) (uses_of (entries older) e i)
    stay = every_both (IsUser (entries older) e i) (IsUser (With n r (entries older)) e i) (uses_of (entries older) e i) (λ g u. user_stays c older n r e i g h may u) k.uses

    user : (x : Descriptor) × (opening_of (entries older) d ≡ Some x) × (x.epoch ≡ e) × (x.inst ≡ i) → IsUser (With n r (entries older)) e i d
    user o = record {
      inside = record { accepted = inside.accepted; named = inside.named; made_in = inside.made_in };
      site_is = site;
      plain = plain_words inside.accepted.words (may.in_time.plain o.0 inside.accepted o.1 inside.named);
      for = record {
        granted = d;
        is_granted = granted_same c older n r e i d may (subst (λ (j : Serial). granted_to (entries older) e j ≡ Some d) o.3 (subst (λ (y : EpochId). granted_to (entries older) y o.0.inst ≡ Some d) o.2 (all_opening c older h d o.0 o.1)));
        caller = inside.accepted;
        named = inside.named;
        site_is = site;
        process_is = refl;
        answered = answered_names (entries older) n s process d (reply.Data bytes) refl;
      };
    }
      where
        inside : IsCallIn (entries older) e d
        inside = subst (λ (y : EpochId). IsCallIn (entries older) y d) o.2 (open_inside c older h d o.0 o.1)

        site : inside.accepted.site ≡ d.site
        site = ((accepted c older h).named d inside.accepted inside.named).site_is

    uses : (b : Bool) → is_opening (opening_of (entries older) d) e i ≡ b → Every (IsUser (With n r (entries older)) e i) (cond b (d ∷ uses_of (entries older) e i) (uses_of (entries older) e i))
    uses true t = (user (opening_is (opening_of (entries older) d) e i t), stay)
    uses false t = stay

users_record : (c : Config) (older : List Line) (n : ℕ) (r : Record) (e : EpochId) (i : Serial) → IsFollowed c older → MayTell c older (Shown r) → AreUsers (entries older) e i → AreUsers (With n r (entries older)) e i
users_record c older n (says.Accept s process new words) e i h may k = users_accept c older n s process new words e i h may k
users_record c older n (says.Answer s process d (reply.Data bytes)) e i h may k = users_read c older n s process d bytes e i h may k
users_record c older n r e i h may k = users_kept c older n r e i h may refl refl k

users_told : (c : Config) (older : List Line) (n : ℕ) (x : Told) (e : EpochId) (i : Serial) → IsFollowed c older → MayTell c older x → AreUsers (entries older) e i → AreUsers (onto_entries n x (entries older)) e i
users_told c older n (Shown r) e i h may k = users_record c older n r e i h may k
users_told c older n _ e i h may k = k

-- who uses or closes an instance by a descriptor is a call of the process to which it was granted
pub are_users : (c : Config) (trace : List Line) → IsFollowed c trace → (e : EpochId) (i : Serial) → AreUsers (entries trace) e i
are_users c [] h e i = record { uses = tt; closes = λ d o. absurd (none_some d o) }
are_users c (x ∷ older) h e i = users_told c older x.number x.told e i h.1 h.0 (are_users c older h.1 e i)
