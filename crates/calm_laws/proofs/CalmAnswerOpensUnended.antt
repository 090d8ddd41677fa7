-- While a call asks an open, whether its answer waits or not, the instance isn't released: nobody has taken it.
use Rattle.std.proofs.Common.{◌≡◌, ℕ, Bool, true, false, List, [], ◌∷◌, Option, Some, refl, sym, ◌∙◌, ap, subst, ◌⊎◌, inl, inr}
use Rattle.role_steps.proofs.of_plain_facts.Tests.{true_false}
use Rattle.locus_ids.specs.declared.config.Config.{Config}
use Rattle.locus_ids.specs.declared.ids.CallId.{CallId}
use Rattle.locus_ids.specs.declared.ids.EpochId.{EpochId}
use Rattle.locus_ids.specs.declared.ids.FileId.{FileId}
use Rattle.locus_ids.specs.declared.ids.Mode.{Mode}
use Rattle.locus_ids.specs.declared.ids.Serial.{Serial}
use Rattle.locus_ids.specs.declared.ids.Stamp.{Stamp}
use Rattle.trace_book.specs.Same.{same_call}
use Rattle.trace_book.specs.declared.record.Record.{Record}
use Rattle.trace_book.specs.declared.record.Record.TheVariants as says
use Rattle.call_rules.specs.declared.want.Want.{Want}
use Rattle.call_rules.specs.declared.want.Want.TheVariants as want
use Rattle.wire_messages.specs.declared.body.Opening.{Opening}
use Rattle.wire_messages.specs.declared.body.Opening.TheVariants as how
use Rattle.role_steps.specs.Requests.{made_for, opening_of}
use Rattle.role_steps.specs.Views.{Told, Shown, Takes}
use Rattle.the_run.specs.Worlds.{Line}
use Rattle.tree_model.specs.Calls.{granted_to}
use Rattle.lawful_trace.specs.Tables.{has_named}
use Rattle.lawful_trace.specs.TreeRows.{IsCallIn}
use Rattle.tree_laws.specs.Printed.{entries}
use Rattle.tree_laws.specs.Calls.{heard, log, request_number}
use Rattle.tree_laws.specs.Following.{IsFollowed, MayTell}
use Rattle.tree_laws.specs.Instances.{IsOpening}
use Rattle.tree_laws.specs.Past.{EndRecord, GrantRecord, Printed, WasGranted, WasNamed, WasReleased}
use Rattle.tree_laws.specs.Serials.{asked_now, is_open_want, serial_asked}
use Rattle.tree_laws.proofs.Answered.{asker_unnamed}
use Rattle.tree_laws.proofs.Counting.{asked_same, Opens}
use Rattle.tree_laws.proofs.Descriptors.{IsUser}
use Rattle.tree_laws.proofs.Fresh.{IsNamed}
use Rattle.tree_laws.proofs.Names.{same_call_eq}
use Rattle.tree_laws.proofs.Serials.{unnamed}
use Rattle.rest_laws.proofs.of_tree_laws.Orders.ProcessBegun.{comes_from, Comes}
use Rattle.rest_laws.proofs.of_tree_laws.Orders.ProcessGranting.{GrantIs, granted_is, released_named}
use Rattle.rest_laws.proofs.of_tree_laws.Orders.ProcessHad.{begun_user}
use Rattle.rest_laws.proofs.of_tree_laws.Orders.ProcessOperations.{accept_turn, IsTurn, take_turn}
use Rattle.rest_laws.proofs.of_tree_laws.Orders.ProcessTaken.{back_in}
use Rattle.rest_laws.proofs.of_tree_laws.Orders.ProcessUnreleased.{close_opens_none}
use Rattle.store_laws.proofs.Users.OpenOnce.{AnsweredRecord, WasOpenAnswered, open_once}
use Rattle.store_laws.proofs.AnswerAnswering.{releaser_in}
use Rattle.store_laws.proofs.AnswerAskers.{close_had}
use Rattle.store_laws.proofs.AnswerUnasked.{opens_request}

abbrev With : ℕ → Told → List Line → List Line
With n x older = record { number = n; told = x } ∷ older

-- ---- an open that is asked, and not answered ----

record IsSomeOpen (c : Config) (w : Want) : Type 0 where
  file : FileId
  it : Opening
  opening_is : IsOpening c w file it

some_open : (c : Config) (w : Want) → is_open_want w ≡ true → IsSomeOpen c w
some_open c (want.Open f m) t = record { file = f; it = opening_of m; opening_is = (refl, refl) }
some_open c (want.OpenToMend f) t = record { file = f; it = how.Mend; opening_is = (refl, refl) }
some_open c (want.Make group kind sites) t = record { file = record { group = group; ino = 0 }; it = how.Make (made_for c group sites) kind; opening_is = (refl, refl, refl) }
some_open c (want.Look f w) t = absurd (true_false (sym t))
some_open c (want.Do i o) t = absurd (true_false (sym t))
some_open c (want.Close i) t = absurd (true_false (sym t))
some_open c (want.Give r) t = absurd (true_false (sym t))
some_open c want.Never t = absurd (true_false (sym t))

asked_unnamed : (c : Config) (t : List Line) → IsFollowed c t → (e : EpochId) (d : CallId) (i : Serial) → IsCallIn (entries t) e d → Opens c t d → serial_asked c t d ≡ i.serial → i.us ≡ d.site → heard c t d ≡ log t d → WasNamed t e i → ⊥
asked_unnamed c t h e d i inside opens serial us clear named = (let o : IsSomeOpen c (asked_now c t d) = some_open c (asked_now c t d) opens in
    unnamed c t e d (request_number t d) i o.file o.it h (record { wanted = asked_now c t d; asks = record { asked = refl; request = opens_request (asked_now c t d) opens; nothing_waits = clear }; opening_is = o.opening_is; inside = inside; request_is = refl; serial_is = sym serial }) us named)

-- ---- a line ----

-- it asked that before the line, or has just begun to ask it
record AskedBefore (c : Config) (older new : List Line) (d : CallId) : Type 0 where
  named : IsNamed (entries older) d
  opens : Opens c older d
  serial : serial_asked c new d ≡ serial_asked c older d

abbrev Split : Config → List Line → List Line → CallId → Type 0
Split c older new d = AskedBefore c older new d ⊎ (heard c new d ≡ log new d)

turn_split : (c : Config) (n : ℕ) (x : Told) (it : CallId) (older : List Line) (d : CallId) (i : Serial) → IsTurn c n x older it i → IsNamed (entries (With n x older)) d → Opens c (With n x older) d → Split c older (With n x older) d
turn_split c n x it older d i t named opens = over (same_call it d) refl
  where
    over : (b : Bool) → same_call it d ≡ b → Split c older (With n x older) d
    over true e = inr (subst (λ (y : CallId). heard c (With n x older) y ≡ log (With n x older) y) (same_call_eq it d e) t.clear)
    over false e = (let o : IsNamed (entries older) d × (asked_now c (With n x older) d ≡ asked_now c older d) = t.turned.other d named e in
        inl (record { named = o.0; opens = ap is_open_want (sym o.1) ∙ opens; serial = t.turned.serial_other d e }))

split : (c : Config) (n : ℕ) (x : Told) (older : List Line) (d : CallId) (i : Serial) → IsFollowed c older → MayTell c older x → IsNamed (entries (With n x older)) d → Opens c (With n x older) d → Split c older (With n x older) d
split c n (Shown (says.Accept s process new words)) older d i h may named opens = turn_split c n (Shown (says.Accept s process new words)) new older d i (accept_turn c n s process new words older i h may) named opens
split c n (Takes s it request times a) older d i h may named opens = turn_split c n (Takes s it request times a) it older d i (take_turn c n s it request times a older i h may) named opens
split c n (Shown r) older d i h may named opens = inl (record { named = named; opens = ap is_open_want (sym (asked_same c older n (Shown r) d h may named refl)) ∙ opens; serial = refl })
split c n x older d i h may named opens = inl (record { named = named; opens = ap is_open_want (sym (asked_same c older n x d h may named refl)) ∙ opens; serial = refl })

-- ---- a release ----

granted_answered : (t : List Line) (e : EpochId) (d : CallId) (request : ℕ) (i : Serial) (m : Mode) (f : FileId) (stamp : Option Stamp) (ss : ℕ) → WasGranted t e d request i m f stamp ss → WasOpenAnswered t e i d request
granted_answered [] e d request i m f stamp ss was = was
granted_answered (x ∷ older) e d request i m f stamp ss (inr was) = inr (granted_answered older e d request i m f stamp ss was)
granted_answered (x ∷ older) e d request i m f stamp ss (inl now) = inl (over x.told now)
  where
    by_record : (r : Record) → GrantRecord e d request i m f stamp ss older r → AnsweredRecord e i d request older r
    by_record (says.Grant at call number inst mode file on place) p = record { epoch_is = p.epoch_is; serial_is = p.serial_is; call_is = p.call_is; request_is = p.request_is }
    by_record _ p = absurd p

    over : (y : Told) → Printed (GrantRecord e d request i m f stamp ss) older y → Printed (AnsweredRecord e i d request) older y
    over (Shown r) p = by_record r p
    over _ p = p

-- the call that it was granted to is the one that asks
module _ (c : Config) (t : List Line) (h : IsFollowed c t) (e : EpochId) (d : CallId) (i : Serial) (inside : IsCallIn (entries t) e d) (opens : Opens c t d) (serial : serial_asked c t d ≡ i.serial) (us : i.us ≡ d.site) where
  granted_is_it : (g : CallId) → granted_to (entries t) e i ≡ Some g → g ≡ d
  granted_is_it g k = (open_once c t h e i g d by.request (granted_answered t e g by.request i by.mode by.file by.stamp by.place by.was_granted) inside us (sym serial) opens).0
    where
      by : GrantIs t e i g
      by = granted_is c t h e i g k

  -- nobody may release it
  unclosed : (call : CallId) → IsCallIn (entries t) e call → asked_now c t call ≡ want.Close i → ⊥
  unclosed call there asked = over (comes_from c t h e call i there (close_had c t call i h (there.accepted, there.named) asked))
    where
      over : Comes t e call i → ⊥
      over (inl granted) = close_opens_none i (ap is_open_want (sym asked) ∙ subst (Opens c t) (sym (granted_is_it call granted)) opens)
      over (inr began) = (let u : IsUser (entries t) e i call = begun_user c t e i call h there began in
          true_false (sym (subst (λ (z : CallId). has_named (entries t) z ≡ true) (granted_is_it u.for.granted u.for.is_granted) u.for.answered) ∙ asker_unnamed c t d h (opens_request (asked_now c t d) opens)))

release_now : (c : Config) (older : List Line) (x : Told) (e : EpochId) (d : CallId) (i : Serial) → IsFollowed c older → MayTell c older x → IsCallIn (entries older) e d → Opens c older d → serial_asked c older d ≡ i.serial → i.us ≡ d.site → Printed (EndRecord e i) older x → ⊥
release_now c older (Shown (says.Release at inst f stamp)) e d i h may inside opens serial us p =
    unclosed c older h e d i inside opens serial us may.in_time.call
    (subst (λ (k : EpochId). IsCallIn (entries older) k may.in_time.call) p.epoch_is (releaser_in c older at inst f stamp may))
    (may.in_time.asks.asked ∙ ap want.Close p.serial_is)
release_now c older (Shown r) e d i h may inside opens serial us p = absurd p
release_now c older x e d i h may inside opens serial us p = absurd p

-- ---- every trace ----

pub open_unreleased : (c : Config) (t : List Line) → IsFollowed c t → (e : EpochId) (d : CallId) (i : Serial) → IsCallIn (entries t) e d → Opens c t d → serial_asked c t d ≡ i.serial → i.us ≡ d.site → WasReleased t e i → ⊥
open_unreleased c [] h e d i inside opens serial us was = was
open_unreleased c (x ∷ older) h e d i inside opens serial us was = over (split c x.number x.told older d i h.1 h.0 (inside.accepted, inside.named) opens) (λ there asks same k. open_unreleased c older h.1 e d i there asks same us k) was
  where
    over : Split c older (x ∷ older) d → (IsCallIn (entries older) e d → Opens c older d → serial_asked c older d ≡ i.serial → WasReleased older e i → ⊥) → WasReleased (x ∷ older) e i → ⊥
    over (inr clear) later w = asked_unnamed c (x ∷ older) h e d i inside opens serial us clear (released_named c (x ∷ older) h e i w)
    over (inl k) later (inl now) = release_now c older x.told e d i h.1 h.0 (back_in c x.number x.told older e d h.1 h.0 inside k.named) k.opens (sym k.serial ∙ serial) us now
    over (inl k) later (inr w) = later (back_in c x.number x.told older e d h.1 h.0 inside k.named) k.opens (sym k.serial ∙ serial) w
