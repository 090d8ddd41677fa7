-- A serial number is of one open of a site's boot, in whichever epoch: it is granted in one epoch at most.
use Rattle.std.proofs.Common.{◌≡◌, ℕ, ◌+◌, ◌≤◌, Bool, true, false, cond, ◌&&◌, List, [], ◌∷◌, Option, Some, None, refl, sym, ◌∙◌, ap, subst, arith, ◌⊎◌, inl, inr}
use Rattle.plain_facts.proofs.Options.{none_some, some_same}
use Rattle.locus_ids.specs.declared.config.Config.{Config}
use Rattle.locus_ids.specs.declared.ids.CallId.{CallId}
use Rattle.locus_ids.specs.declared.ids.EpochId.{EpochId}
use Rattle.locus_ids.specs.declared.ids.Serial.{Serial}
use Rattle.trace_book.specs.Same.{same_call, same_epoch, same_serial}
use Rattle.trace_book.specs.declared.record.Record.{Record}
use Rattle.trace_book.specs.declared.record.Record.TheVariants as says
use Rattle.role_steps.specs.Views.{Told, Shown, Takes}
use Rattle.the_run.specs.Worlds.{Line}
use Rattle.tree_model.specs.Calls.{granted_to}
use Rattle.tree_model.specs.Epochs.{boot_of}
use Rattle.lawful_trace.specs.TreeRows.{IsCallIn}
use Rattle.tree_laws.specs.Printed.{entries, onto_entries}
use Rattle.tree_laws.specs.Following.{MayTell, IsFollowed}
use Rattle.tree_laws.specs.Past.{WasNamed}
use Rattle.tree_laws.specs.Serials.{asked_now, is_open_want, opens_asked, serial_asked}
use Rattle.tree_laws.proofs.CarriedLooks.{one_epoch}
use Rattle.tree_laws.proofs.Counting.{Opens, IsNow, Turned, calls_counted, accept_turned, take_turned, up_still, asked_same}
use Rattle.tree_laws.proofs.Fresh.{IsNamed}
use Rattle.tree_laws.proofs.Names.{same_call_eq, same_epoch_eq, same_serial_eq}
use Rattle.tree_laws.proofs.Serials.{asks_opens}
use Rattle.tree_laws.proofs.Orders.ProcessGranting.{GrantIs, granted_is}

abbrev With : ℕ → Told → List Line → List Line
With n x older = record { number = n; told = x } ∷ older

-- the open of this call was granted under this number in the boot of now
record IsGranted (t : List Line) (e : EpochId) (i : Serial) (g : CallId) : Type 0 where
  granted : granted_to (entries t) e i ≡ Some g
  now : IsNow t g

record Once (c : Config) (t : List Line) : Type 0 where
  bound : (e : EpochId) (i : Serial) (g : CallId) → IsGranted t e i g → i.serial ≤ opens_asked c t g.site
  asker : (e : EpochId) (i : Serial) (g d : CallId) → IsGranted t e i g → IsNamed (entries t) d → d.site ≡ g.site → d.boot ≡ g.boot → Opens c t d → serial_asked c t d ≡ i.serial → d ≡ g
  one : (e f : EpochId) (i : Serial) (g k : CallId) → IsGranted t e i g → IsGranted t f i k → e ≡ f

-- ---- what the line grants ----

pub record GrantsNow (c : Config) (older : List Line) (e : EpochId) (i : Serial) (g : CallId) : Type 0 where
  pub inside : IsCallIn (entries older) e g
  pub opens : Opens c older g
  pub serial : serial_asked c older g ≡ i.serial
  pub new : WasNamed older e i → ⊥

granted_record : (c : Config) (n : ℕ) (r : Record) (older : List Line) (e : EpochId) (i : Serial) (g : CallId) → MayTell c older (Shown r) → granted_to (record { line = n; what = r } ∷ entries older) e i ≡ Some g → (granted_to (entries older) e i ≡ Some g) ⊎ GrantsNow c older e i g
granted_record c n (says.Grant at call request inst m f stamp ss) older e i g may k = over (same_epoch at e) (same_serial inst i) refl refl k
  where
    own : call ≡ g → at ≡ e → inst ≡ i → GrantsNow c older e i g
    own same there is = record {
      inside = subst (λ (z : EpochId). IsCallIn (entries older) z g) there (subst (IsCallIn (entries older) at) same may.row.opens.step);
      opens = subst (Opens c older) same (asks_opens c older at call request inst.serial may.in_time.opens.asked may.in_time.opens.it may.in_time.opens.asks);
      serial = ap (serial_asked c older) (sym same) ∙ (sym may.in_time.opens.asks.serial_is ∙ ap (λ (j : Serial). j.serial) is);
      new = λ named. may.in_time.new (subst (λ (j : Serial). WasNamed older at j) (sym is) (subst (λ (z : EpochId). WasNamed older z i) (sym there) named));
    }

    over : (a b : Bool) → same_epoch at e ≡ a → same_serial inst i ≡ b → cond (a && b) (Some call) (granted_to (entries older) e i) ≡ Some g → (granted_to (entries older) e i ≡ Some g) ⊎ GrantsNow c older e i g
    over true true p q z = inr (own (some_same call g z) (same_epoch_eq at e p) (same_serial_eq inst i q))
    over true false p q z = inl z
    over false b p q z = inl z
granted_record c n _ older e i g may k = inl k

pub granted_split : (c : Config) (n : ℕ) (x : Told) (older : List Line) (e : EpochId) (i : Serial) (g : CallId) → MayTell c older x → granted_to (onto_entries n x (entries older)) e i ≡ Some g → (granted_to (entries older) e i ≡ Some g) ⊎ GrantsNow c older e i g
granted_split c n (Shown r) older e i g may k = granted_record c n r older e i g may k
granted_split c n _ older e i g may k = inl k

-- ---- a line ----

-- the call was of the boot of now before the line, and no open is uncounted by it
abbrev pub Counts : Config → List Line → List Line → CallId → Type 0
Counts c older new g = IsNow older g × (opens_asked c older g.site ≤ opens_asked c new g.site)

pub counts_up : (c : Config) (n : ℕ) (x : Told) (older : List Line) (g : CallId) → IsFollowed c older → MayTell c older x → IsNamed (entries older) g → IsNow (With n x older) g → Counts c older (With n x older) g
counts_up c n (Shown (says.Accept s process new words)) older g h may named now = (let t : Turned c older n (Shown (says.Accept s process new words)) new = accept_turned c older n s process new words h may in (now ∙ t.boots g.site, t.count_more g.site))
counts_up c n (Shown (says.Up s boot)) older g h may named now = (let b : IsNow older g × (opens_asked c (With n (Shown (says.Up s boot)) older) g.site ≡ opens_asked c older g.site) = (up_still c older n s boot h may).count g named now in (b.0, at_least (opens_asked c older g.site) (opens_asked c (With n (Shown (says.Up s boot)) older) g.site) b.1))
  where
    at_least : (a b : ℕ) → b ≡ a → a ≤ b
    at_least a b e = omega (arith, e)
counts_up c n (Takes s it request times a) older g h may named now = (let t : Turned c older n (Takes s it request times a) it = take_turned c older n s it request times a h may in (now ∙ t.boots g.site, t.count_more g.site))
counts_up c n (Shown r) older g h may named now = (now, own (opens_asked c older g.site))
  where
    own : (a : ℕ) → a ≤ a
    own a = omega arith
counts_up c n x older g h may named now = (now, own (opens_asked c older g.site))
  where
    own : (a : ℕ) → a ≤ a
    own a = omega arith

-- a call that begins to ask with the line, or what it asked before
record Began (c : Config) (older new : List Line) (d : CallId) : Type 0 where
  number : serial_asked c new d ≡ opens_asked c older d.site + 1

record Asked (c : Config) (older new : List Line) (d : CallId) : Type 0 where
  named : IsNamed (entries older) d
  opens : Opens c older d
  serial : serial_asked c new d ≡ serial_asked c older d

turned_asks : (c : Config) (n : ℕ) (x : Told) (it : CallId) (older : List Line) (d : CallId) → Turned c older n x it → IsNamed (entries (With n x older)) d → Opens c (With n x older) d → Began c older (With n x older) d ⊎ Asked c older (With n x older) d
turned_asks c n x it older d t named opens = over (same_call it d) refl
  where
    over : (b : Bool) → same_call it d ≡ b → Began c older (With n x older) d ⊎ Asked c older (With n x older) d
    over true e = inl (record { number = subst (λ (y : CallId). serial_asked c (With n x older) y ≡ opens_asked c older y.site + 1) (same_call_eq it d e) (t.serial_own ∙ t.count_open (subst (Opens c (With n x older)) (sym (same_call_eq it d e)) opens)) })
    over false e = (let o : IsNamed (entries older) d × (asked_now c (With n x older) d ≡ asked_now c older d) = t.other d named e in inr (record { named = o.0; opens = ap is_open_want (sym o.1) ∙ opens; serial = t.serial_other d e }))

opens_split : (c : Config) (n : ℕ) (x : Told) (older : List Line) (d : CallId) → IsFollowed c older → MayTell c older x → IsNamed (entries (With n x older)) d → Opens c (With n x older) d → Began c older (With n x older) d ⊎ Asked c older (With n x older) d
opens_split c n (Shown (says.Accept s process new words)) older d h may named opens = turned_asks c n (Shown (says.Accept s process new words)) new older d (accept_turned c older n s process new words h may) named opens
opens_split c n (Takes s it request times a) older d h may named opens = turned_asks c n (Takes s it request times a) it older d (take_turned c older n s it request times a h may) named opens
opens_split c n (Shown r) older d h may named opens = inr (record { named = named; opens = ap is_open_want (sym (asked_same c older n (Shown r) d h may named refl)) ∙ opens; serial = refl })
opens_split c n x older d h may named opens = inr (record { named = named; opens = ap is_open_want (sym (asked_same c older n x d h may named refl)) ∙ opens; serial = refl })

module _ (c : Config) (n : ℕ) (x : Told) (older : List Line) (h : IsFollowed c older) (may : MayTell c older x) (k : Once c older) where
  -- it was granted in the boot of now before, or the line grants it
  was : (e : EpochId) (i : Serial) (g : CallId) → IsGranted (With n x older) e i g → IsGranted older e i g ⊎ GrantsNow c older e i g
  was e i g w = over (granted_split c n x older e i g may w.granted)
    where
      over : (granted_to (entries older) e i ≡ Some g) ⊎ GrantsNow c older e i g → IsGranted older e i g ⊎ GrantsNow c older e i g
      over (inl old) = (let b : GrantIs older e i g = granted_is c older h e i g old in inl (record { granted = old; now = (counts_up c n x older g h may (b.inside.accepted, b.inside.named) w.now).0 }))
      over (inr new) = inr new

  named_of : (e : EpochId) (i : Serial) (g : CallId) → IsGranted older e i g ⊎ GrantsNow c older e i g → IsNamed (entries older) g
  named_of e i g (inl w) = (let b : GrantIs older e i g = granted_is c older h e i g w.granted in (b.inside.accepted, b.inside.named))
  named_of e i g (inr w) = (w.inside.accepted, w.inside.named)

  -- the number is counted before the line
  low : (e : EpochId) (i : Serial) (g : CallId) → IsNow (With n x older) g → IsGranted older e i g ⊎ GrantsNow c older e i g → i.serial ≤ opens_asked c older g.site
  low e i g now (inl w) = k.bound e i g w
  low e i g now (inr w) = subst (λ (m : ℕ). m ≤ opens_asked c older g.site) w.serial ((calls_counted c older h).counted g (w.inside.accepted, w.inside.named) w.opens (counts_up c n x older g h may (w.inside.accepted, w.inside.named) now).0)

  bound_new : (e : EpochId) (i : Serial) (g : CallId) → IsGranted (With n x older) e i g → i.serial ≤ opens_asked c (With n x older) g.site
  bound_new e i g w = (let a : i.serial ≤ opens_asked c older g.site = low e i g w.now (was e i g w) in let b : Counts c older (With n x older) g = counts_up c n x older g h may (named_of e i g (was e i g w)) w.now in more (opens_asked c older g.site) (opens_asked c (With n x older) g.site) a b.1)
    where
      more : (p q : ℕ) → i.serial ≤ p → p ≤ q → i.serial ≤ q
      more p q a b = omega (arith, a, b)

  asker_new : (e : EpochId) (i : Serial) (g d : CallId) → IsGranted (With n x older) e i g → IsNamed (entries (With n x older)) d → d.site ≡ g.site → d.boot ≡ g.boot → Opens c (With n x older) d → serial_asked c (With n x older) d ≡ i.serial → d ≡ g
  asker_new e i g d w named site boot opens serial = over (was e i g w) (opens_split c n x older d h may named opens)
    where
      over : IsGranted older e i g ⊎ GrantsNow c older e i g → Began c older (With n x older) d ⊎ Asked c older (With n x older) d → d ≡ g
      over o (inl began) = absurd (above (low e i g w.now o) (sym serial ∙ (began.number ∙ ap (λ (s : ℕ). opens_asked c older s + 1) site)))
        where
          above : i.serial ≤ opens_asked c older g.site → i.serial ≡ opens_asked c older g.site + 1 → ⊥
          above a b = omega (arith, a, b)
      over (inl old) (inr a) = k.asker e i g d old a.named site boot a.opens (sym a.serial ∙ serial)
      over (inr new) (inr a) = (calls_counted c older h).apart d g a.named (new.inside.accepted, new.inside.named) site boot a.opens new.opens (sym a.serial ∙ (serial ∙ sym new.serial))

  one_new : (e f : EpochId) (i : Serial) (g j : CallId) → IsGranted (With n x older) e i g → IsGranted (With n x older) f i j → g.site ≡ j.site → e ≡ f
  one_new e f i g j w v site = over (was e i g w) (was f i j v)
    where
      boot : g.boot ≡ j.boot
      boot = w.now ∙ (ap (boot_of (entries (With n x older))) site ∙ sym v.now)

      same : (p q : EpochId) (a b : CallId) → a ≡ b → IsCallIn (entries older) p a → IsCallIn (entries older) q b → p ≡ q
      same p q a b is u z = one_epoch older p q b (subst (IsCallIn (entries older) p) is u) z

      over : IsGranted older e i g ⊎ GrantsNow c older e i g → IsGranted older f i j ⊎ GrantsNow c older f i j → e ≡ f
      over (inl a) (inl b) = k.one e f i g j a b
      over (inr a) (inl b) = same e f g j (k.asker f i j g b (a.inside.accepted, a.inside.named) site boot a.opens a.serial) a.inside (granted_is c older h f i j b.granted).inside
      over (inl a) (inr b) = sym (same f e j g (k.asker e i g j a (b.inside.accepted, b.inside.named) (sym site) (sym boot) b.opens b.serial) b.inside (granted_is c older h e i g a.granted).inside)
      over (inr a) (inr b) = same e f g j ((calls_counted c older h).apart g j (a.inside.accepted, a.inside.named) (b.inside.accepted, b.inside.named) site boot a.opens b.opens (a.serial ∙ sym b.serial)) a.inside b.inside

  once_told : Once c (With n x older)
  once_told = record { bound = bound_new; asker = asker_new; one = λ e f i g j w v. one_new e f i g j w v (sym (granted_is c (With n x older) (may, h) e i g w.granted).us_is ∙ (granted_is c (With n x older) (may, h) f i j v.granted).us_is) }

once : (c : Config) (t : List Line) → IsFollowed c t → Once c t
once c [] h = record { bound = λ e i g w. absurd (none_some g w.granted); asker = λ e i g d w. absurd (none_some g w.granted); one = λ e f i g j w. absurd (none_some g w.granted) }
once c (x ∷ older) h = once_told c x.number x.told older h.1 h.0 (once c older h.1)

-- what two epochs granted under one number, in the boot of now, one did
pub one_epoch_of : (c : Config) (t : List Line) → IsFollowed c t → (e f : EpochId) (i : Serial) (g j : CallId) → granted_to (entries t) e i ≡ Some g → IsNow t g → granted_to (entries t) f i ≡ Some j → IsNow t j → e ≡ f
one_epoch_of c t h e f i g j a p b q = (once c t h).one e f i g j (record { granted = a; now = p }) (record { granted = b; now = q })

-- an open that is granted now was granted in no other epoch of the boot
pub unnamed_in_boot : (c : Config) (t : List Line) → IsFollowed c t → (e : EpochId) (i : Serial) (g d : CallId) → granted_to (entries t) e i ≡ Some g → IsNow t g → IsNamed (entries t) d → d.site ≡ g.site → d.boot ≡ g.boot → Opens c t d → serial_asked c t d ≡ i.serial → d ≡ g
unnamed_in_boot c t h e i g d granted now named site boot opens serial = (once c t h).asker e i g d (record { granted = granted; now = now }) named site boot opens serial
