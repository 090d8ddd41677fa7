-- A serial number is of one request: who asks an open under it still is the call that was answered under it, at that request.
use Rattle.std.proofs.Common.{◌≡◌, ℕ, ◌+◌, ◌≤◌, Bool, true, false, cond, List, [], ◌∷◌, ◌++◌, length, refl, sym, ◌∙◌, ap, subst, arith, ◌⊎◌, inl, inr}
use Rattle.locus_ids.specs.declared.config.Config.{Config}
use Rattle.locus_ids.specs.declared.ids.CallId.{CallId}
use Rattle.locus_ids.specs.declared.ids.EpochId.{EpochId}
use Rattle.locus_ids.specs.declared.ids.FileId.{FileId}
use Rattle.locus_ids.specs.declared.ids.Mode.{Mode}
use Rattle.locus_ids.specs.declared.ids.Serial.{Serial}
use Rattle.trace_book.specs.Same.{same_call}
use Rattle.trace_book.specs.declared.record.Record.{Record}
use Rattle.trace_book.specs.declared.record.Record.TheVariants as says
use Rattle.role_steps.specs.Views.{Told, Shown, Takes}
use Rattle.tree_laws.specs.of_the_run.Worlds.{Line}
use Rattle.tree_model.specs.Epochs.{boot_of}
use Rattle.tree_laws.specs.of_lawful_trace.Progress.{Answers}
use Rattle.tree_laws.specs.of_lawful_trace.TreeRows.{IsCallIn}
use Rattle.tree_laws.specs.Printed.{entries}
use Rattle.tree_laws.specs.Calls.{log, request_number}
use Rattle.tree_laws.specs.Following.{IsFollowed, MayTell, OpensInTime}
use Rattle.tree_laws.specs.Past.{Printed, Was}
use Rattle.tree_laws.specs.Serials.{asked_now, is_open_want, opens_asked, serial_asked}
use Rattle.tree_laws.proofs.Counting.{IsNow, Opens, Turned, accept_turned, asked_same, calls_counted, take_turned}
use Rattle.tree_laws.proofs.Fresh.{IsNamed}
use Rattle.tree_laws.proofs.Names.{same_call_eq}
use Rattle.tree_laws.proofs.OneBoot.{one_boot}
use Rattle.tree_laws.proofs.Scripts.{in_stays}
use Rattle.tree_laws.proofs.Serials.{asks_opens, in_named}
use Rattle.tree_laws.proofs.Orders.ProcessOnce.{Counts, counts_up}

abbrev With : ℕ → Told → List Line → List Line
With n x older = record { number = n; told = x } ∷ older

-- ---- what a call asks after a line ----

-- the call begins to ask an open with the line, under a new number
record Begins (c : Config) (older new : List Line) (d : CallId) : Type 0 where
  number : serial_asked c new d ≡ opens_asked c older d.site + 1
  now : IsNow older d

-- or it asks what it asked
record Asked (c : Config) (older new : List Line) (d : CallId) : Type 0 where
  named : IsNamed (entries older) d
  opens : Opens c older d
  serial : serial_asked c new d ≡ serial_asked c older d
  request : request_number new d ≡ request_number older d

turned_split : (c : Config) (n : ℕ) (x : Told) (it : CallId) (older : List Line) (d : CallId) → Turned c older n x it → (same_call it d ≡ false → log (With n x older) d ≡ log older d) → IsNamed (entries (With n x older)) d → Opens c (With n x older) d → Begins c older (With n x older) d ⊎ Asked c older (With n x older) d
turned_split c n x it older d t logs named opens = over (same_call it d) refl
  where
    over : (b : Bool) → same_call it d ≡ b → Begins c older (With n x older) d ⊎ Asked c older (With n x older) d
    over true e = (let is : it ≡ d = same_call_eq it d e in inl (record {
      number = subst (λ (y : CallId). serial_asked c (With n x older) y ≡ opens_asked c older y.site + 1) is (t.serial_own ∙ t.count_open (subst (Opens c (With n x older)) (sym is) opens));
      now = subst (IsNow older) is t.now;
    }))
    over false e = (let o : IsNamed (entries older) d × (asked_now c (With n x older) d ≡ asked_now c older d) = t.other d named e in
        inr (record { named = o.0; opens = ap is_open_want (sym o.1) ∙ opens; serial = t.serial_other d e; request = ap (λ (xs : Answers). length xs + 1) (logs e) }))

opens_split : (c : Config) (n : ℕ) (x : Told) (older : List Line) (d : CallId) → IsFollowed c older → MayTell c older x → IsNamed (entries (With n x older)) d → Opens c (With n x older) d → Begins c older (With n x older) d ⊎ Asked c older (With n x older) d
opens_split c n (Shown (says.Accept s process new words)) older d h may named opens = turned_split c n (Shown (says.Accept s process new words)) new older d (accept_turned c older n s process new words h may) (λ e. refl) named opens
opens_split c n (Takes s it request times a) older d h may named opens = turned_split c n (Takes s it request times a) it older d (take_turned c older n s it request times a h may) (λ e. ap (λ (b : Bool). cond b (log older d ++ a ∷ []) (log older d)) e) named opens
opens_split c n (Shown r) older d h may named opens = inr (record { named = named; opens = ap is_open_want (sym (asked_same c older n (Shown r) d h may named refl)) ∙ opens; serial = refl; request = refl })
opens_split c n x older d h may named opens = inr (record { named = named; opens = ap is_open_want (sym (asked_same c older n x d h may named refl)) ∙ opens; serial = refl; request = refl })

-- ---- who was answered ----

-- the record grants or refuses the open of the call's request, under this number
pub record IsAnsweredAs (e : EpochId) (i : Serial) (g : CallId) (request : ℕ) (at : EpochId) (call : CallId) (number : ℕ) (inst : Serial) : Type 0 where
  pub epoch_is : at ≡ e
  pub serial_is : inst ≡ i
  pub call_is : call ≡ g
  pub request_is : number ≡ request

abbrev pub AnsweredRecord : EpochId → Serial → CallId → ℕ → List Line → Record → Type 0
AnsweredRecord e i g request older (says.Grant at call number inst m file on place) = IsAnsweredAs e i g request at call number inst
AnsweredRecord e i g request older (says.Refuse at call number inst m file why) = IsAnsweredAs e i g request at call number inst
AnsweredRecord e i g request older _ = ⊥

abbrev pub WasOpenAnswered : List Line → EpochId → Serial → CallId → ℕ → Type 0
WasOpenAnswered t e i g request = Was (Printed (AnsweredRecord e i g request)) t

-- its number is counted; and whoever of its boot asks an open under the number is this call, at this request
record IsOnce (c : Config) (t : List Line) (e : EpochId) (i : Serial) (g : CallId) (request : ℕ) : Type 0 where
  inside : IsCallIn (entries t) e g
  us_is : i.us ≡ g.site
  bound : IsNow t g → i.serial ≤ opens_asked c t g.site
  asker : (d : CallId) → IsNamed (entries t) d → d.site ≡ g.site → d.boot ≡ g.boot → Opens c t d → serial_asked c t d ≡ i.serial → (d ≡ g) × (request_number t d ≡ request)

-- ---- the record ----

once_new : (c : Config) (n : ℕ) (older : List Line) (r : Record) (e : EpochId) (i : Serial) (g : CallId) (request : ℕ) (m : Mode) (f : FileId) → IsFollowed c older → MayTell c older (Shown r) → IsCallIn (entries older) e g → OpensInTime c older e g request i m f →
    ((d : CallId) → IsNamed (entries (With n (Shown r) older)) d → Opens c (With n (Shown r) older) d → Asked c older (With n (Shown r) older) d) → IsOnce c (With n (Shown r) older) e i g request
once_new c n older r e i g request m f h may inside o still = record {
  inside = in_stays c n (Shown r) older e g h may inside;
  us_is = o.user_is;
  bound = bound;
  asker = asker;
}
  where
    opens : Opens c older g
    opens = asks_opens c older e g request i.serial o.asked o.it o.asks

    bound : IsNow (With n (Shown r) older) g → i.serial ≤ opens_asked c (With n (Shown r) older) g.site
    bound now = (let k : Counts c older (With n (Shown r) older) g = counts_up c n (Shown r) older g h may (in_named older e g inside) now in
        let low : serial_asked c older g ≤ opens_asked c older g.site = (calls_counted c older h).counted g (in_named older e g inside) opens k.0 in
        let more : opens_asked c older g.site ≤ opens_asked c (With n (Shown r) older) g.site = k.1 in
        let same : i.serial ≡ serial_asked c older g = o.asks.serial_is in omega (arith, low, more, same))

    asker : (d : CallId) → IsNamed (entries (With n (Shown r) older)) d → d.site ≡ g.site → d.boot ≡ g.boot → Opens c (With n (Shown r) older) d → serial_asked c (With n (Shown r) older) d ≡ i.serial → (d ≡ g) × (request_number (With n (Shown r) older) d ≡ request)
    asker d named site boot asking serial = (is, a.request ∙ (ap (request_number older) is ∙ sym o.asks.request_is))
      where
        a : Asked c older (With n (Shown r) older) d
        a = still d named asking

        is : d ≡ g
        is = (calls_counted c older h).apart d g a.named (in_named older e g inside) site boot a.opens opens (sym a.serial ∙ (serial ∙ o.asks.serial_is))

-- ---- since then ----

once_more : (c : Config) (n : ℕ) (x : Told) (older : List Line) (e : EpochId) (i : Serial) (g : CallId) (request : ℕ) → IsFollowed c older → MayTell c older x → IsOnce c older e i g request → IsOnce c (With n x older) e i g request
once_more c n x older e i g request h may k = record {
  inside = in_stays c n x older e g h may k.inside;
  us_is = k.us_is;
  bound = bound;
  asker = λ d named site boot opens serial. over d site boot serial (opens_split c n x older d h may named opens);
}
  where
    bound : IsNow (With n x older) g → i.serial ≤ opens_asked c (With n x older) g.site
    bound now = (let b : Counts c older (With n x older) g = counts_up c n x older g h may (in_named older e g k.inside) now in
        let low : i.serial ≤ opens_asked c older g.site = k.bound b.0 in
        let more : opens_asked c older g.site ≤ opens_asked c (With n x older) g.site = b.1 in omega (arith, low, more))

    above : (a b : ℕ) → a ≤ b → a ≡ b + 1 → ⊥
    above a b le e = omega (arith, le, e)

    over : (d : CallId) → d.site ≡ g.site → d.boot ≡ g.boot → serial_asked c (With n x older) d ≡ i.serial → Begins c older (With n x older) d ⊎ Asked c older (With n x older) d → (d ≡ g) × (request_number (With n x older) d ≡ request)
    over d site boot serial (inl b) = absurd (above i.serial (opens_asked c older g.site) (k.bound (sym boot ∙ (b.now ∙ ap (boot_of (entries older)) site))) (sym serial ∙ (b.number ∙ ap (λ (s : ℕ). opens_asked c older s + 1) site)))
    over d site boot serial (inr a) = (let z : (d ≡ g) × (request_number older d ≡ request) = k.asker d a.named site boot a.opens (sym a.serial ∙ serial) in (z.0, a.request ∙ z.1))

once_of : (c : Config) (t : List Line) → IsFollowed c t → (e : EpochId) (i : Serial) (g : CallId) (request : ℕ) → WasOpenAnswered t e i g request → IsOnce c t e i g request
once_of c [] h e i g request was = absurd was
once_of c (y ∷ older) h e i g request (inr was) = once_more c y.number y.told older e i g request h.1 h.0 (once_of c older h.1 e i g request was)
once_of c (y ∷ older) h e i g request (inl now) = over y.told h.0 now
  where
    moved : (at : EpochId) (call : CallId) (number : ℕ) (inst : Serial) → IsAnsweredAs e i g request at call number inst → (x : Told) → IsOnce c (With y.number x older) at inst call number → IsOnce c (With y.number x older) e i g request
    moved at call number inst p x k = subst (λ (z : EpochId). IsOnce c (With y.number x older) z i g request) p.epoch_is
        (subst (λ (j : Serial). IsOnce c (With y.number x older) at j g request) p.serial_is
        (subst (λ (d : CallId). IsOnce c (With y.number x older) at inst d request) p.call_is
        (subst (λ (m : ℕ). IsOnce c (With y.number x older) at inst call m) p.request_is k)))

    over : (x : Told) → MayTell c older x → Printed (AnsweredRecord e i g request) older x → IsOnce c (With y.number x older) e i g request
    over (Shown (says.Grant at call number inst m file on place)) may p = moved at call number inst p (Shown (says.Grant at call number inst m file on place))
        (once_new c y.number older (says.Grant at call number inst m file on place) at inst call number m file h.1 may may.row.opens.step may.in_time.opens (λ d named opens. record { named = named; opens = ap is_open_want (sym (asked_same c older y.number (Shown (says.Grant at call number inst m file on place)) d h.1 may named refl)) ∙ opens; serial = refl; request = refl }))
    over (Shown (says.Refuse at call number inst m file why)) may p = moved at call number inst p (Shown (says.Refuse at call number inst m file why))
        (once_new c y.number older (says.Refuse at call number inst m file why) at inst call number m file h.1 may may.row.opens.step may.in_time.opens (λ d named opens. record { named = named; opens = ap is_open_want (sym (asked_same c older y.number (Shown (says.Refuse at call number inst m file why)) d h.1 may named refl)) ∙ opens; serial = refl; request = refl }))
    over (Shown r) may p = absurd p
    over x may p = absurd p

-- who asks an open of the epoch still is the call that was answered under its number, at this request
pub open_once : (c : Config) (t : List Line) → IsFollowed c t → (e : EpochId) (i : Serial) (g d : CallId) (request : ℕ) → WasOpenAnswered t e i g request → IsCallIn (entries t) e d → i.us ≡ d.site → i.serial ≡ serial_asked c t d → Opens c t d → (g ≡ d) × (request_number t d ≡ request)
open_once c t h e i g d request was inside us serial opens = (sym z.0, z.1)
  where
    k : IsOnce c t e i g request
    k = once_of c t h e i g request was

    site : d.site ≡ g.site
    site = sym us ∙ k.us_is

    z : (d ≡ g) × (request_number t d ≡ request)
    z = k.asker d (in_named t e d inside) site (one_boot c t e d g h inside k.inside site) opens (sym serial)
