-- What a call was opened otherwise than to read, and what a descriptor that may write stands for, was granted so.
use Rattle.std.proofs.Common.{◌≡◌, ℕ, ◌==◌, ◌&&◌, Bool, true, false, cond, List, [], ◌∷◌, Option, option_map, Some, None, refl, sym, ◌∙◌, ap, subst, inl, inr}
use Rattle.role_steps.proofs.of_plain_facts.Options.{none_some, some_same}
use Rattle.role_steps.proofs.of_plain_facts.Tests.{true_false}
use Rattle.locus_ids.specs.declared.ids.CallId.{CallId}
use Rattle.locus_ids.specs.declared.ids.EpochId.{EpochId}
use Rattle.locus_ids.specs.declared.ids.FileId.{FileId}
use Rattle.locus_ids.specs.declared.ids.Mode.{Mode}
use Rattle.locus_ids.specs.declared.ids.Serial.{Serial}
use Rattle.locus_ids.specs.declared.ids.Stamp.{Stamp}
use Rattle.locus_ids.specs.declared.refusal.Refusal.{Refusal}
use Rattle.locus_ids.specs.declared.refusal.Refusal.TheVariants as refusal
use Rattle.commit_graph.specs.Grants.{is_read}
use Rattle.trace_book.specs.Same.{same_call}
use Rattle.trace_book.specs.declared.call.Call.{Call}
use Rattle.trace_book.specs.declared.call.Call.TheVariants as call
use Rattle.trace_book.specs.declared.descriptor.Beginning.TheVariants as begins
use Rattle.trace_book.specs.declared.descriptor.Descriptor.{Descriptor}
use Rattle.trace_book.specs.declared.descriptor.OneVersion.{OneVersion}
use Rattle.trace_book.specs.declared.record.Record.TheVariants as says
use Rattle.trace_book.specs.declared.reply.Reply.{Reply}
use Rattle.trace_book.specs.declared.reply.Reply.TheVariants as reply
use Rattle.call_rules.specs.Descriptors.{beginning, begins_change, is_in}
use Rattle.call_rules.specs.Words.{is_too_long}
use Rattle.role_steps.specs.Views.{Told, Shown}
use Rattle.the_run.specs.Worlds.{Line}
use Rattle.store_laws.specs.of_site_laws.Locks.Writing.{IsWrite}
use Rattle.tree_model.specs.declared.accepted.Waiting.{Waiting}
use Rattle.tree_model.specs.Calls.{accepted_as, call_named, opening_of, version_of}
use Rattle.tree_model.specs.Epochs.{epoch_of}
use Rattle.tree_model.specs.Folds.{Trace}
use Rattle.lawful_trace.specs.Tables.{begins_now, begun, closed_by, descriptor, held_again, kept_by, opened_as, opened_by, reads_by}
use Rattle.tree_laws.specs.Past.{WasGranted}
use Rattle.tree_laws.specs.Printed.{entries, onto_entries}
use Rattle.tree_laws.proofs.Descriptors.{closed_left}
use Rattle.tree_laws.proofs.Names.{same_epoch_eq}

-- the instance was granted in the epoch, not only to be read
pub record GrantedToWrite (t : List Line) (e : EpochId) (i : Serial) : Type 0 where
  pub call : CallId
  pub request : ℕ
  pub mode : Mode
  pub file : FileId
  pub stamp : Option Stamp
  pub place : ℕ
  pub was_granted : WasGranted t e call request i mode file stamp place
  pub writes : is_read mode ≡ false

pub grant_stays : (x : Line) (older : List Line) (e : EpochId) (i : Serial) → GrantedToWrite older e i → GrantedToWrite (x ∷ older) e i
grant_stays x older e i k = record { call = k.call; request = k.request; mode = k.mode; file = k.file; stamp = k.stamp; place = k.place; was_granted = inr k.was_granted; writes = k.writes }

-- ---- the last open that was granted to a call ----

-- the descriptor is of what was granted so, where it isn't only to be read
abbrev IsOfGrant : List Line → Descriptor → Type 0
IsOfGrant t x = is_read x.mode ≡ false → GrantedToWrite t x.epoch x.inst

opening_granted : (t : List Line) (d : CallId) (x : Descriptor) → opening_of (entries t) d ≡ Some x → IsOfGrant t x
opening_granted [] d x e = absurd (none_some x e)
opening_granted (y ∷ older) d x e = over y.told e (opening_granted older d x)
  where
    Before : Type 0
    Before = opening_of (entries older) d ≡ Some x → IsOfGrant older x

    now : (z : Told) → Type 0
    now z = IsOfGrant (record { number = y.number; told = z } ∷ older) x

    later : (z : Told) → opening_of (entries older) d ≡ Some x → Before → now z
    later z e before = λ w. grant_stays (record { number = y.number; told = z }) older x.epoch x.inst (before e w)

    grants : (at : EpochId) (it : CallId) (request : ℕ) (i : Serial) (m : Mode) (f : FileId) (stamp : Option Stamp) (ss : ℕ) (b : Bool) → cond b (Some (record { mode = m; epoch = at; inst = i; steady = None })) (opening_of (entries older) d) ≡ Some x → Before → now (Shown (says.Grant at it request i m f stamp ss))
    grants at it request i m f stamp ss true e before = subst (IsOfGrant (record { number = y.number; told = Shown (says.Grant at it request i m f stamp ss) } ∷ older)) (some_same (record { mode = m; epoch = at; inst = i; steady = None }) x e)
        (λ w. record { call = it; request = request; mode = m; file = f; stamp = stamp; place = ss; was_granted = inl (record { epoch_is = refl; call_is = refl; request_is = refl; serial_is = refl; mode_is = refl; file_is = refl; stamp_is = refl; place_is = refl }); writes = w })
    grants at it request i m f stamp ss false e before = later (Shown (says.Grant at it request i m f stamp ss)) e before

    over : (z : Told) → opening_of (onto_entries y.number z (entries older)) d ≡ Some x → Before → now z
    over (Shown (says.Grant at it request i m f stamp ss)) e before = grants at it request i m f stamp ss (same_call it d) e before
    over (Shown r) e before = later (Shown r) e before
    over z e before = later z e before

-- ---- descriptors ----

-- what a reply makes a number stand for was granted to its call last, whatever version the number keeps
opened_from : (r : Reply) (before : Trace) (d : CallId) (fd : ℕ) (old : Option Descriptor) (x : Descriptor) (P : Type 0) → ((y : Descriptor) (v : Option OneVersion) → opening_of before d ≡ Some y → record y { steady = v } ≡ x → P) → (old ≡ Some x → P) → opened_by r before d fd old ≡ Some x → P
opened_from (reply.Opened n) before d fd old x P new was h = over (n == fd) h
  where
    found : (o : Option Descriptor) → opening_of before d ≡ o → option_map (λ (y : Descriptor). record y { steady = kept_by (call_named before d) (version_of before d) }) o ≡ Some x → P
    found None e k = absurd (none_some x k)
    found (Some y) e k = new y (kept_by (call_named before d) (version_of before d)) e (some_same (record y { steady = kept_by (call_named before d) (version_of before d) }) x k)

    over : (b : Bool) → cond b (opened_as before d) old ≡ Some x → P
    over true k = found (opening_of before d) refl k
    over false k = was k
opened_from (reply.Data bytes) before d fd old x P new was h = over (reads_by (call_named before d) fd) h
  where
    again : (y : Descriptor) → opening_of before d ≡ Some y → (o : Option Descriptor) → option_map (λ (z : Descriptor). record y { steady = z.steady }) o ≡ Some x → P
    again y e None k = absurd (none_some x k)
    again y e (Some z) k = new y z.steady e (some_same (record y { steady = z.steady }) x k)

    found : (o : Option Descriptor) → opening_of before d ≡ o → held_again o old ≡ Some x → P
    found None e k = was k
    found (Some y) e k = again y e old k

    over : (b : Bool) → cond b (held_again (opening_of before d) old) old ≡ Some x → P
    over true k = found (opening_of before d) refl k
    over false k = was k
opened_from _ before d fd old x P new was h = was h

pub descriptor_granted : (t : List Line) (s process fd : ℕ) (x : Descriptor) → descriptor (entries t) s process fd ≡ Some x → IsOfGrant t x
descriptor_granted [] s process fd x e = absurd (none_some x e)
descriptor_granted (y ∷ older) s process fd x e = over y.told e (descriptor_granted older s process fd x)
  where
    Old : Type 0
    Old = descriptor (entries older) s process fd ≡ Some x

    now : (z : Told) → Type 0
    now z = IsOfGrant (record { number = y.number; told = z } ∷ older) x

    stays : (z : Told) → IsOfGrant older x → now z
    stays z k = λ w. grant_stays (record { number = y.number; told = z }) older x.epoch x.inst (k w)

    accepts : (z : Told) (words : Call) (b : Bool) → cond b (closed_by words fd (descriptor (entries older) s process fd)) (descriptor (entries older) s process fd) ≡ Some x → (Old → IsOfGrant older x) → now z
    accepts z words true e before = stays z (before (closed_left words fd (descriptor (entries older) s process fd) x e))
    accepts z words false e before = stays z (before e)

    stops : (z : Told) (b : Bool) → cond b None (descriptor (entries older) s process fd) ≡ Some x → (Old → IsOfGrant older x) → now z
    stops z true e before = absurd (none_some x e)
    stops z false e before = stays z (before e)

    over : (z : Told) → descriptor (onto_entries y.number z (entries older)) s process fd ≡ Some x → (Old → IsOfGrant older x) → now z
    over (Shown (says.Accept at user it words)) e before = accepts (Shown (says.Accept at user it words)) words ((at == s) && (user == process)) e before
    over (Shown (says.Answer at user it r)) e before = answers ((at == s) && (user == process)) e
      where
        z : Told
        z = Shown (says.Answer at user it r)

        answers : (b : Bool) → cond b (opened_by r (entries older) it fd (descriptor (entries older) s process fd)) (descriptor (entries older) s process fd) ≡ Some x → now z
        answers true e = opened_from r (entries older) it fd (descriptor (entries older) s process fd) x (now z) (λ o v opens is. stays z (subst (IsOfGrant older) is (opening_granted older it o opens))) (λ o. stays z (before o)) e
        answers false e = stays z (before e)
    over (Shown (says.Stopped at cause)) e before = stops (Shown (says.Stopped at cause)) (at == s) e before
    over (Shown r) e before = stays (Shown r) (before e)
    over z e before = stays z (before e)

-- ---- where writes and cuts begin ----

denied_uses : (why : Refusal) (e : EpochId) (i : Serial) → begins.Denied why ≡ begins.Uses e i → ⊥
denied_uses why e i k = cc

uses_epoch : (e g : EpochId) (i j : Serial) → begins.Uses e i ≡ begins.Uses g j → e ≡ g
uses_epoch e g i j k = cc

uses_serial : (e g : EpochId) (i j : Serial) → begins.Uses e i ≡ begins.Uses g j → i ≡ j
uses_serial e g i j k = cc

-- a descriptor of the epoch that the site is in, which may write
record Writable (table : ℕ → Option Descriptor) (now : Option EpochId) (e : EpochId) (i : Serial) : Type 0 where
  fd : ℕ
  stands : Descriptor
  found : table fd ≡ Some stands
  epoch_is : stands.epoch ≡ e
  serial_is : stands.inst ≡ i
  inside : now ≡ Some e
  writes : is_read stands.mode ≡ false

in_now : (now : Option EpochId) (e : EpochId) → is_in now e ≡ true → now ≡ Some e
in_now None e t = absurd (true_false (sym t))
in_now (Some at) e t = ap Some (same_epoch_eq at e t)

on_written : (table : ℕ → Option Descriptor) (now : Option EpochId) (fd : ℕ) (e : EpochId) (i : Serial) (o : Option Descriptor) → table fd ≡ o → begins_change now o ≡ begins.Uses e i → Writable table now e i
on_written table now fd e i None is k = absurd (denied_uses _ e i k)
on_written table now fd e i (Some x) is k = by x.steady refl
  where
    at : x.steady ≡ None → (a b : Bool) → is_in now x.epoch ≡ a → is_read x.mode ≡ b → Writable table now e i
    at s true true p q = absurd (denied_uses _ e i (rw q at (rw p at (rw s at k))))
    at s true false p q = (let u : begins.Uses x.epoch x.inst ≡ begins.Uses e i = rw q at (rw p at (rw s at k)) in
        record { fd = fd; stands = x; found = is; epoch_is = uses_epoch x.epoch e x.inst i u; serial_is = uses_serial x.epoch e x.inst i u; inside = in_now now x.epoch p ∙ ap Some (uses_epoch x.epoch e x.inst i u); writes = q })
    at s false b p q = absurd (denied_uses _ e i (rw p at (rw s at k)))

    by : (o : Option OneVersion) → x.steady ≡ o → Writable table now e i
    by None s = at s (is_in now x.epoch) (is_read x.mode) refl refl
    by (Some version) s = absurd (denied_uses _ e i (rw s at k))

written_on : (table : ℕ → Option Descriptor) (now : Option EpochId) (id : CallId) (words : Call) (e : EpochId) (i : Serial) → IsWrite words → beginning table now id words ≡ begins.Uses e i → Writable table now e i
written_on table now id (call.Write fd at bytes) e i w k = over (is_too_long (call.Write fd at bytes)) k
  where
    over : (b : Bool) → cond b (begins.Denied refusal.TooLong) (begins_change now (table fd)) ≡ begins.Uses e i → Writable table now e i
    over true m = absurd (denied_uses _ e i m)
    over false m = on_written table now fd e i (table fd) refl m
written_on table now id (call.Cut fd len) e i w k = on_written table now fd e i (table fd) refl k
written_on table now id _ e i w k = absurd w

-- the instance that a write or a cut uses was granted so, in the epoch in which the call was made
pub record UsesWritten (t : List Line) (w : Waiting) (e : EpochId) (i : Serial) : Type 0 where
  pub epoch_is : w.epoch ≡ Some e
  pub granted : GrantedToWrite t e i

pub uses_written : (t : List Line) (d : CallId) (w : Waiting) (e : EpochId) (i : Serial) → call_named (entries t) d ≡ Some w → begun (entries t) d ≡ Some (begins.Uses e i) → IsWrite w.words → UsesWritten t w e i
uses_written [] d w e i named starts is = absurd (none_some w named)
uses_written (y ∷ older) d w e i named starts is = over y.told named starts (uses_written older d w e i)
  where
    Before : Type 0
    Before = call_named (entries older) d ≡ Some w → begun (entries older) d ≡ Some (begins.Uses e i) → IsWrite w.words → UsesWritten older w e i

    now : Told → Type 0
    now z = UsesWritten (record { number = y.number; told = z } ∷ older) w e i

    stays : (z : Told) → UsesWritten older w e i → now z
    stays z k = record { epoch_is = k.epoch_is; granted = grant_stays (record { number = y.number; told = z }) older e i k.granted }

    accepts : (z : Told) (s process : ℕ) (it : CallId) (words : Call) (b : Bool) → cond b (Some (accepted_as (entries older) s process it words)) (call_named (entries older) d) ≡ Some w → cond b (Some (begins_now (entries older) s process it words)) (begun (entries older) d) ≡ Some (begins.Uses e i) → Before → now z
    accepts z s process it words true named starts before =
        let own : accepted_as (entries older) s process it words ≡ w = some_same (accepted_as (entries older) s process it words) w named in
        let k : Writable (descriptor (entries older) s process) (epoch_of (entries older) s) e i = written_on (descriptor (entries older) s process) (epoch_of (entries older) s) it words e i (subst (λ (v : Waiting). IsWrite v.words) (sym own) is) (some_same (begins_now (entries older) s process it words) (begins.Uses e i) starts) in
        record {
          epoch_is = ap (λ (v : Waiting). v.epoch) (sym own) ∙ k.inside;
          granted = grant_stays (record { number = y.number; told = z }) older e i (subst (λ (j : Serial). GrantedToWrite older e j) k.serial_is (subst (λ (g : EpochId). GrantedToWrite older g k.stands.inst) k.epoch_is (descriptor_granted older s process k.fd k.stands k.found k.writes)));
        }
    accepts z s process it words false named starts before = stays z (before named starts is)

    over : (z : Told) → call_named (onto_entries y.number z (entries older)) d ≡ Some w → begun (onto_entries y.number z (entries older)) d ≡ Some (begins.Uses e i) → Before → now z
    over (Shown (says.Accept s process it words)) named starts before = accepts (Shown (says.Accept s process it words)) s process it words (same_call it d) named starts before
    over (Shown r) named starts before = stays (Shown r) (before named starts is)
    over z named starts before = stays z (before named starts is)
