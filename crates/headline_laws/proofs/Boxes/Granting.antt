-- What was asked where something was granted: a mend is granted to a mend, and what is resolved is no directory.
use Rattle.std.proofs.Common.{◌≡◌, ℕ, true, List, [], ◌∷◌, Option, Some, refl, sym, ◌∙◌, ap, subst, inl, inr}
use Rattle.plain_facts.proofs.Tests.{and_first, true_false}
use Rattle.locus_ids.specs.declared.config.Config.{Config}
use Rattle.locus_ids.specs.declared.ids.CallId.{CallId}
use Rattle.locus_ids.specs.declared.ids.EpochId.{EpochId}
use Rattle.locus_ids.specs.declared.ids.FileId.{FileId}
use Rattle.locus_ids.specs.declared.ids.Kind.TheVariants as kind
use Rattle.locus_ids.specs.declared.ids.Mode.{Mode}
use Rattle.locus_ids.specs.declared.ids.Mode.TheVariants as mode
use Rattle.locus_ids.specs.declared.ids.Serial.{Serial}
use Rattle.locus_ids.specs.declared.ids.Stamp.{Stamp}
use Rattle.trace_book.specs.declared.call.Call.{Call}
use Rattle.trace_book.specs.declared.call.Call.TheVariants as call
use Rattle.trace_book.specs.declared.call.OpenMode.TheVariants as how
use Rattle.trace_book.specs.declared.descriptor.Beginning.{Beginning}
use Rattle.trace_book.specs.declared.descriptor.Beginning.TheVariants as begins
use Rattle.trace_book.specs.declared.record.Record.TheVariants as says
use Rattle.call_rules.specs.declared.want.Want.{Want}
use Rattle.call_rules.specs.declared.want.Want.TheVariants as want
use Rattle.role_steps.specs.Views.{Told, Shown}
use Rattle.the_run.specs.Worlds.{Line}
use Rattle.tree_model.specs.declared.accepted.AcceptedCall.{AcceptedCall}
use Rattle.tree_model.specs.declared.accepted.Waiting.{Waiting}
use Rattle.tree_model.specs.Calls.{call_named}
use Rattle.tree_model.specs.Opening.{is_site, resolving_site, site_named, words_in}
use Rattle.tree_model.specs.State.{words_of}
use Rattle.tree_model.specs.Tree.{tree_of}
use Rattle.lawful_trace.specs.Progress.{answers, wants_after, wants_as, wants_next}
use Rattle.lawful_trace.specs.Tables.{begun}
use Rattle.lawful_trace.specs.TreeRows.{IsCallIn, is_open_of}
use Rattle.tree_laws.specs.Calls.{log}
use Rattle.tree_laws.specs.Following.{IsFollowed, MayTell}
use Rattle.tree_laws.specs.Past.{GrantRecord, Printed, WasGranted}
use Rattle.tree_laws.specs.Printed.{entries}
use Rattle.tree_laws.specs.Serials.{asked_now}
use Rattle.tree_laws.specs.Serials.{is_open_want}
use Rattle.tree_laws.proofs.Hearing.{Hears, hears, wants_as_asked}
use Rattle.tree_laws.proofs.Scripts.{named_stays}
use Rattle.tree_laws.proofs.Serials.{asks_opens}
use Rattle.tree_laws.proofs.Orders.Standing.{same_file_eq}
use Rattle.rest_laws.proofs.of_store_laws.Holdings.MendMends.{mend_opened}
use Rattle.rest_laws.proofs.of_store_laws.Holdings.Seats.{granted_placed}
use Rattle.std.specs.Option.{option_map}
use Rattle.locus_ids.specs.declared.ids.Kind.{Kind}
use Rattle.trace_book.specs.declared.call.OpenMode.{OpenMode}
use Rattle.call_rules.specs.Descriptors.{beginning}
use Rattle.tree_model.specs.Histories.{history}
use Rattle.tree_laws.specs.Orders.Joining.{PacksAreOfSites}
use Rattle.rest_laws.proofs.of_store_laws.ScriptFitted.{Began, began}
use Rattle.rest_laws.proofs.of_tree_laws.Syncs.TreeCalls.{call_in_is}
use Rattle.rest_laws.proofs.Fits.EntryActing.{asks_now}
use Rattle.rest_laws.proofs.Fits.EntryFacts.{IsKnown, IsPlain, plain_stays}
use Rattle.rest_laws.proofs.Fits.EntryNamed.{trace_named}
use Rattle.rest_laws.proofs.Fits.EntryWalking.{AsksBy}

abbrev With : ℕ → Told → List Line → List Line
With n x older = record { number = n; told = x } ∷ older

-- ---- what was asked ----

abbrev IsLook : Want → Type 0
IsLook (want.Look f w) = Unit {0}
IsLook _ = ⊥

-- what is granted was asked so
pub asked_open : (c : Config) (older : List Line) → IsFollowed c older → (e : EpochId) (d : CallId) (request : ℕ) (i : Serial) (m : Mode) (f : FileId) (stamp : Option Stamp) (ss : ℕ) (may : MayTell c older (Shown (says.Grant e d request i m f stamp ss))) → is_open_of m f (asked_now c older d) ≡ true
asked_open c older h e d request i m f stamp ss may = subst (λ (w : Want). is_open_of m f w ≡ true) (wanted ∙ sym may.in_time.opens.asks.asks.asked) may.row.opens.asked
  where
    opens : is_open_want (asked_now c older d) ≡ true
    opens = asks_opens c older e d request i.serial may.in_time.opens.asked may.in_time.opens.it may.in_time.opens.asks

    no_look : (v : Want) → is_open_want v ≡ true → IsLook v → ⊥
    no_look (want.Look f w) k l = true_false (sym k)
    no_look _ k l = l

    answered : answers c (entries older) d ≡ log older d
    answered = by (hears c older d h)
      where
        by : Hears c older d → answers c (entries older) d ≡ log older d
        by (inl e) = e ∙ may.in_time.opens.asks.asks.nothing_waits
        by (inr l) = absurd (no_look (asked_now c older d) opens (subst IsLook (sym l.looks) tt))

    wanted : wants_next c (entries older) d ≡ may.in_time.opens.asks.wanted
    wanted = ap (wants_after c (entries older) d) answered ∙ wants_as_asked c (entries older) d (log older d) may.in_time.opens.asks.wanted may.in_time.opens.asks.asks.asked may.in_time.opens.asks.asks.request

-- to whom a mend is granted, mends
pub record Mender (t : List Line) (d : CallId) (f : FileId) : Type 0 where
  pub caller : Waiting
  pub named : call_named (entries t) d ≡ Some caller
  pub words_are : caller.words ≡ call.Mend f

mender_stays : (c : Config) (n : ℕ) (x : Told) (older : List Line) (d : CallId) (f : FileId) → IsFollowed c older → MayTell c older x → Mender older d f → Mender (With n x older) d f
mender_stays c n x older d f h may k = record { caller = k.caller; named = named_stays c n x older d h may (k.caller, k.named) ∙ k.named; words_are = k.words_are }

pub mends_called : (c : Config) (t : List Line) → IsFollowed c t → (e : EpochId) (d : CallId) (request : ℕ) (i : Serial) (f : FileId) (stamp : Option Stamp) (ss : ℕ) → WasGranted t e d request i mode.Mend f stamp ss → Mender t d f
mends_called c [] h e d request i f stamp ss was = absurd was
mends_called c (y ∷ older) h e d request i f stamp ss (inr was) = mender_stays c y.number y.told older d f h.1 h.0 (mends_called c older h.1 e d request i f stamp ss was)
mends_called c (y ∷ older) h e d request i f stamp ss (inl now) = mender_stays c y.number y.told older d f h.1 h.0 (over y.told h.0 now)
  where
    over : (x : Told) → MayTell c older x → Printed (GrantRecord e d request i mode.Mend f stamp ss) older x → Mender older d f
    over (Shown (says.Grant at it number inst m g on place)) may p = subst (λ (z : CallId). Mender older z f) p.call_is (subst (λ (z : FileId). Mender older it z) p.file_is (record {
      caller = inside.accepted;
      named = inside.named;
      words_are = mend_opened c (entries older) inside.accepted (begun (entries older) it) (answers c (entries older) it) g
          (subst (λ (o : Option Waiting). is_open_of mode.Mend g (wants_as c (entries older) o (begun (entries older) it) (answers c (entries older) it)) ≡ true) inside.named
          (subst (λ (z : Mode). is_open_of z g (wants_as c (entries older) (call_named (entries older) it) (begun (entries older) it) (answers c (entries older) it)) ≡ true) p.mode_is may.row.opens.asked));
    }))
      where
        inside : IsCallIn (entries older) at it
        inside = may.row.opens.step
    over (Shown r) may p = absurd p
    over x may p = absurd p

-- ---- what is resolved is no directory ----

resolves_open : (words : Call) (ss : ℕ) → is_site (site_named (Some words)) ss ≡ true → (path : List ℕ) × (m : OpenMode) × (words ≡ call.Open path m)
resolves_open (call.Open path (how.Resolve site)) ss e = (path, how.Resolve site, refl)
resolves_open _ ss e = absurd (true_false (sym e))

-- what an open of a file asks is known to be one
opens_known : (Known : FileId → Kind → Type 0) (path : List ℕ) (m : OpenMode) (f : FileId) (b : Beginning) (w : Want) → is_open_of mode.Resolve f w ≡ true → AsksBy Known (call.Open path m) b w → Known f kind.File
opens_known Known path m f (begins.Walks id) (want.Open g (how.Resolve site)) e k = subst (λ (x : FileId). Known x kind.File) (same_file_eq g f e) k
opens_known Known path m f (begins.Uses at i) (want.Open g (how.Resolve site)) e k = absurd k
opens_known Known path m f (begins.Denied why) (want.Open g (how.Resolve site)) e k = absurd k
opens_known Known path m f (begins.Reopens version last) (want.Open g (how.Resolve site)) e k = absurd (reads_only k)
  where
    reads_only : how.Resolve site ≡ how.Read → ⊥
    reads_only q = cc
opens_known Known path m f begins.Frees (want.Open g (how.Resolve site)) e k = absurd k
opens_known Known path m f b _ e k = absurd (true_false (sym e))

-- the call as a tree has it
abbrev told_of : Waiting → AcceptedCall
told_of w = record { call = w.call; process = w.process; words = w.words }

module _ (c : Config) (packs : PacksAreOfSites c) where
  granted_plain : (older : List Line) → IsFollowed c older → (e : EpochId) (d : CallId) (request : ℕ) (i : Serial) (f : FileId) (stamp : Option Stamp) (ss : ℕ) (may : MayTell c older (Shown (says.Grant e d request i mode.Resolve f stamp ss))) → IsPlain c older f
  granted_plain older h e d request i f stamp ss may = opens_known (IsKnown c older) opened.0 opened.1 f (beginning started.table inside.accepted.epoch d inside.accepted.words) (asked_now c older d) (asked_open c older h e d request i mode.Resolve f stamp ss may)
      (subst (λ (w : Call). AsksBy (IsKnown c older) w (beginning started.table inside.accepted.epoch d inside.accepted.words) (asked_now c older d)) opened.2 (asks_now c older h (trace_named c packs older h).calls d inside.accepted (beginning started.table inside.accepted.epoch d inside.accepted.words) inside.named started.begun_is (asked_now c older d) refl))
    where
      inside : IsCallIn (entries older) e d
      inside = may.row.opens.step

      started : Began older d inside.accepted
      started = began older d inside.accepted inside.named

      words : words_in (tree_of c e f.group (entries older)) d ≡ Some inside.accepted.words
      words = ap words_of (call_in_is c e f.group (entries older) d) ∙ ap (λ (o : Option Waiting). words_of (option_map told_of o)) inside.named

      at : is_site (site_named (words_in (tree_of c e f.group (entries older)) d)) ss ≡ true
      at = and_first (is_site (resolving_site (tree_of c e f.group (entries older)) d) ss) _ (granted_placed (history c (entries older)) (tree_of c e f.group (entries older)) d i mode.Resolve f stamp ss may.row.gives)

      opened : (path : List ℕ) × (m : OpenMode) × (inside.accepted.words ≡ call.Open path m)
      opened = resolves_open inside.accepted.words ss (subst (λ (o : Option Call). is_site (site_named o) ss ≡ true) words at)

  pub resolved_plain : (t : List Line) → IsFollowed c t → (e : EpochId) (d : CallId) (request : ℕ) (i : Serial) (f : FileId) (stamp : Option Stamp) (ss : ℕ) → WasGranted t e d request i mode.Resolve f stamp ss → IsPlain c t f
  resolved_plain [] h e d request i f stamp ss was = absurd was
  resolved_plain (y ∷ older) h e d request i f stamp ss (inr was) = plain_stays c y.number y.told older h.1 h.0 f (resolved_plain older h.1 e d request i f stamp ss was)
  resolved_plain (y ∷ older) h e d request i f stamp ss (inl now) = plain_stays c y.number y.told older h.1 h.0 f (over y.told h.0 now)
    where
      over : (x : Told) → MayTell c older x → Printed (GrantRecord e d request i mode.Resolve f stamp ss) older x → IsPlain c older f
      over (Shown (says.Grant at it number inst m g on place)) may p = subst (IsPlain c older) p.file_is (by m p.mode_is may)
        where
          by : (z : Mode) → z ≡ mode.Resolve → MayTell c older (Shown (says.Grant at it number inst z g on place)) → IsPlain c older g
          by z is k = granted_plain older h.1 at it number inst g on place (subst (λ (y : Mode). MayTell c older (Shown (says.Grant at it number inst y g on place))) is k)
      over (Shown r) may p = absurd p
      over x may p = absurd p
