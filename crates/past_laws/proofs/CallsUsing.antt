-- A call that uses or closes an instance begins at a descriptor of its process that stands for it.
use Rattle.std.proofs.Common.{◌≡◌, ℕ, Bool, true, false, cond, ◌&&◌, Option, Some, None, refl, ◌∙◌, ap}
use Rattle.locus_ids.specs.declared.ids.CallId.{CallId}
use Rattle.locus_ids.specs.declared.ids.EpochId.{EpochId}
use Rattle.locus_ids.specs.declared.ids.Serial.{Serial}
use Rattle.locus_ids.specs.declared.refusal.Refusal.{Refusal}
use Rattle.locus_ids.specs.declared.refusal.Refusal.TheVariants as refusal
use Rattle.commit_graph.specs.Grants.{is_read}
use Rattle.trace_book.specs.Same.{same_epoch, same_serial}
use Rattle.trace_book.specs.declared.call.Call.{Call}
use Rattle.trace_book.specs.declared.call.Call.TheVariants as call
use Rattle.trace_book.specs.declared.descriptor.Beginning.{Beginning}
use Rattle.trace_book.specs.declared.descriptor.Beginning.TheVariants as begins
use Rattle.trace_book.specs.declared.descriptor.Descriptor.{Descriptor}
use Rattle.trace_book.specs.declared.descriptor.OneVersion.{OneVersion}
use Rattle.call_rules.specs.Descriptors.{is_in, begins_again, begins_change, begins_close, begins_read, begins_walk, begins_open, beginning, held_or, lowest_free, stale_or}
use Rattle.call_rules.specs.Words.{is_too_long}
use Rattle.promises.specs.of_lawful_trace.Tables.{uses_by}
use Rattle.past_laws.specs.Standing.{BeginsWell}
use Rattle.past_laws.proofs.Names.{false_true, epoch_eq, serial_eq}

-- a close is of this number
abbrev pub ClosesNumber : Call → ℕ → Type 0
ClosesNumber (call.Close n) fd = n ≡ fd
ClosesNumber _ fd = Unit {0}

pub record FromDescriptor (table : ℕ → Option Descriptor) (now : Option EpochId) (words : Call) (e : EpochId) (i : Serial) : Type 0 where
  pub fd : ℕ
  pub stands : Descriptor
  pub found : table fd ≡ Some stands
  pub epoch_is : stands.epoch ≡ e
  pub serial_is : stands.inst ≡ i
  pub inside : now ≡ Some e
  pub closes : ClosesNumber words fd

denied_uses : {A : Type 0} (why : Refusal) (e : EpochId) (i : Serial) → begins.Denied why ≡ begins.Uses e i → A
denied_uses why e i k = absurd (cc)

uses_epoch : (e g : EpochId) (i j : Serial) → begins.Uses e i ≡ begins.Uses g j → e ≡ g
uses_epoch e g i j k = cc

uses_serial : (e g : EpochId) (i j : Serial) → begins.Uses e i ≡ begins.Uses g j → i ≡ j
uses_serial e g i j k = cc

walk_uses : (id : CallId) {A : Type 0} (now : Option EpochId) (e : EpochId) (i : Serial) → begins_walk now id ≡ begins.Uses e i → A
walk_uses id None e i k = absurd (cc)
walk_uses id (Some at) e i k = absurd (cc)

open_uses : (id : CallId) {A : Type 0} (now : Option EpochId) (free : Option ℕ) (e : EpochId) (i : Serial) → begins_open now id free ≡ begins.Uses e i → A
open_uses id now None e i k = absurd (cc)
open_uses id now (Some fd) e i k = walk_uses id now e i k

in_now : (now : Option EpochId) (e : EpochId) → is_in now e ≡ true → now ≡ Some e
in_now None e t = false_true t
in_now (Some at) e t = ap Some (epoch_eq at e t)

again_uses : {A : Type 0} (now : Option EpochId) (last : EpochId) (version : OneVersion) (e : EpochId) (i : Serial) → begins_again now last version ≡ begins.Uses e i → A
again_uses None last version e i k = absurd (cc)
again_uses (Some at) last version e i k = absurd (cc)

module _ (table : ℕ → Option Descriptor) (now : Option EpochId) (fd : ℕ) (words : Call) (e : EpochId) (i : Serial) (number : ClosesNumber words fd) where
  held_from : (x : Descriptor) → table fd ≡ Some x → is_in now x.epoch ≡ true → begins.Uses x.epoch x.inst ≡ begins.Uses e i → FromDescriptor table now words e i
  held_from x is t u = record { fd = fd; stands = x; found = is; epoch_is = uses_epoch x.epoch e x.inst i u; serial_is = uses_serial x.epoch e x.inst i u; inside = in_now now x.epoch t ∙ ap Some (uses_epoch x.epoch e x.inst i u); closes = number }

  -- where it isn't held it begins at no instance
  held_uses : (x : Descriptor) → table fd ≡ Some x → (other : Beginning) → (other ≡ begins.Uses e i → ⊥) → held_or now x other ≡ begins.Uses e i → FromDescriptor table now words e i
  held_uses x is other none k = over (is_in now x.epoch) refl k
    where
      over : (b : Bool) → is_in now x.epoch ≡ b → cond b (begins.Uses x.epoch x.inst) other ≡ begins.Uses e i → FromDescriptor table now words e i
      over true p m = held_from x is p m
      over false p m = absurd (none m)

  read_uses : (o : Option Descriptor) → table fd ≡ o → begins_read now o ≡ begins.Uses e i → FromDescriptor table now words e i
  read_uses None is k = denied_uses _ e i k
  read_uses (Some x) is k = held_uses x is (stale_or (begins_again now x.epoch) x.epoch x.steady) (unheld x.steady) k
    where
      unheld : (v : Option OneVersion) → stale_or (begins_again now x.epoch) x.epoch v ≡ begins.Uses e i → ⊥
      unheld None m = denied_uses _ e i m
      unheld (Some version) m = again_uses now x.epoch version e i m

  close_uses : (o : Option Descriptor) → table fd ≡ o → begins_close now o ≡ begins.Uses e i → FromDescriptor table now words e i
  close_uses None is k = denied_uses _ e i k
  close_uses (Some x) is k = held_uses x is (stale_or (λ version. begins.Frees) x.epoch x.steady) (unheld x.steady) k
    where
      unheld : (v : Option OneVersion) → stale_or (λ version. begins.Frees) x.epoch v ≡ begins.Uses e i → ⊥
      unheld None m = denied_uses _ e i m
      unheld (Some version) m = cc

  change_uses : (o : Option Descriptor) → table fd ≡ o → begins_change now o ≡ begins.Uses e i → FromDescriptor table now words e i
  change_uses None is k = denied_uses _ e i k
  change_uses (Some x) is k = by_version x.steady refl
    where
      plain : x.steady ≡ None → FromDescriptor table now words e i
      plain v = at (is_in now x.epoch) (is_read x.mode) refl (rw v at k)
        where
          at : (a b : Bool) → is_in now x.epoch ≡ a → cond a (cond b (begins.Denied refusal.ReadOnly) (begins.Uses x.epoch x.inst)) (begins.Denied (refusal.Stale x.epoch)) ≡ begins.Uses e i → FromDescriptor table now words e i
          at true true p m = denied_uses _ e i m
          at true false p m = held_from x is p m
          at false b p m = denied_uses _ e i m

      by_version : (v : Option OneVersion) → x.steady ≡ v → FromDescriptor table now words e i
      by_version None v = plain v
      by_version (Some version) v = denied_uses _ e i (rw v at k)

pub uses_from : (table : ℕ → Option Descriptor) (now : Option EpochId) (id : CallId) (words : Call) (e : EpochId) (i : Serial) → beginning table now id words ≡ begins.Uses e i → FromDescriptor table now words e i
uses_from table now id (call.Open path mode) e i k = open_uses id now (lowest_free table) e i k
uses_from table now id (call.Read fd at len) e i k = read_uses table now fd (call.Read fd at len) e i tt (table fd) refl k
uses_from table now id (call.Write fd at bytes) e i k = over (is_too_long (call.Write fd at bytes)) k
  where
    over : (b : Bool) → cond b (begins.Denied refusal.TooLong) (begins_change now (table fd)) ≡ begins.Uses e i → FromDescriptor table now (call.Write fd at bytes) e i
    over true m = denied_uses _ e i m
    over false m = change_uses table now fd (call.Write fd at bytes) e i tt (table fd) refl m
uses_from table now id (call.Cut fd len) e i k = change_uses table now fd (call.Cut fd len) e i tt (table fd) refl k
uses_from table now id (call.Commit fd) e i k = change_uses table now fd (call.Commit fd) e i tt (table fd) refl k
uses_from table now id (call.Abort fd) e i k = change_uses table now fd (call.Abort fd) e i tt (table fd) refl k
uses_from table now id (call.Close fd) e i k = close_uses table now fd (call.Close fd) e i refl (table fd) refl k
uses_from table now id (call.Create path sites) e i k = walk_uses id now e i k
uses_from table now id (call.MakeDir path) e i k = walk_uses id now e i k
uses_from table now id (call.Unlink path) e i k = walk_uses id now e i k
uses_from table now id (call.RemoveDir path) e i k = walk_uses id now e i k
uses_from table now id (call.Rename path name) e i k = walk_uses id now e i k
uses_from table now id (call.List path) e i k = walk_uses id now e i k
uses_from table now id (call.Stat path) e i k = walk_uses id now e i k
uses_from table now id (call.Mail path bytes) e i k = walk_uses id now e i k
uses_from table now id (call.Mails path) e i k = walk_uses id now e i k
uses_from table now id (call.Mend file) e i k = walk_uses id now e i k

pub uses_is : (b : Beginning) (e : EpochId) (i : Serial) → uses_by b e i ≡ true → b ≡ begins.Uses e i
uses_is (begins.Uses at inst) e i t = over (same_epoch at e) (same_serial inst i) refl refl t
  where
    over : (a b : Bool) → same_epoch at e ≡ a → same_serial inst i ≡ b → a && b ≡ true → begins.Uses at inst ≡ begins.Uses e i
    over true true p q u = ap (λ (x : EpochId). begins.Uses x inst) (epoch_eq at e p) ∙ ap (begins.Uses e) (serial_eq inst i q)
    over true false p q u = false_true u
    over false b p q u = false_true u
uses_is (begins.Denied why) e i t = false_true t
uses_is (begins.Walks id) e i t = false_true t
uses_is (begins.Reopens version last) e i t = false_true t
uses_is begins.Frees e i t = false_true t

-- ---- nothing is denied since the epoch has changed ----

again_well : (now : Option EpochId) (last : EpochId) (version : OneVersion) → BeginsWell (begins_again now last version)
again_well None last version = tt
again_well (Some e) last version = tt

held_well : (now : Option EpochId) (x : Descriptor) (other : Beginning) → BeginsWell other → BeginsWell (held_or now x other)
held_well now x other h = over (is_in now x.epoch)
  where
    over : (b : Bool) → BeginsWell (cond b (begins.Uses x.epoch x.inst) other)
    over true = tt
    over false = h

read_well : (now : Option EpochId) (o : Option Descriptor) → BeginsWell (begins_read now o)
read_well now None = tt
read_well now (Some x) = held_well now x (stale_or (begins_again now x.epoch) x.epoch x.steady) (unheld x.steady)
  where
    unheld : (v : Option OneVersion) → BeginsWell (stale_or (begins_again now x.epoch) x.epoch v)
    unheld None = tt
    unheld (Some version) = again_well now x.epoch version

close_well : (now : Option EpochId) (o : Option Descriptor) → BeginsWell (begins_close now o)
close_well now None = tt
close_well now (Some x) = held_well now x (stale_or (λ version. begins.Frees) x.epoch x.steady) (unheld x.steady)
  where
    unheld : (v : Option OneVersion) → BeginsWell (stale_or (λ version. begins.Frees) x.epoch v)
    unheld None = tt
    unheld (Some version) = tt

change_well : (now : Option EpochId) (o : Option Descriptor) → BeginsWell (begins_change now o)
change_well now None = tt
change_well now (Some x) = by_version x.steady refl
  where
    at : (a b : Bool) → BeginsWell (cond a (cond b (begins.Denied refusal.ReadOnly) (begins.Uses x.epoch x.inst)) (begins.Denied (refusal.Stale x.epoch)))
    at true true = tt
    at true false = tt
    at false b = tt

    by_version : (v : Option OneVersion) → x.steady ≡ v → BeginsWell (begins_change now (Some x))
    by_version None v = rw v (at (is_in now x.epoch) (is_read x.mode))
    by_version (Some version) v = rw v tt

walk_well : (id : CallId) (now : Option EpochId) → BeginsWell (begins_walk now id)
walk_well id None = tt
walk_well id (Some e) = tt

open_well : (id : CallId) (now : Option EpochId) (free : Option ℕ) → BeginsWell (begins_open now id free)
open_well id now None = tt
open_well id now (Some fd) = walk_well id now

pub beginning_well : (table : ℕ → Option Descriptor) (now : Option EpochId) (id : CallId) (words : Call) → BeginsWell (beginning table now id words)
beginning_well table now id (call.Open path mode) = open_well id now (lowest_free table)
beginning_well table now id (call.Read fd at len) = read_well now (table fd)
beginning_well table now id (call.Write fd at bytes) = over (is_too_long (call.Write fd at bytes))
  where
    over : (b : Bool) → BeginsWell (cond b (begins.Denied refusal.TooLong) (begins_change now (table fd)))
    over true = tt
    over false = change_well now (table fd)
beginning_well table now id (call.Cut fd len) = change_well now (table fd)
beginning_well table now id (call.Commit fd) = change_well now (table fd)
beginning_well table now id (call.Abort fd) = change_well now (table fd)
beginning_well table now id (call.Close fd) = close_well now (table fd)
beginning_well table now id _ = walk_well id now
