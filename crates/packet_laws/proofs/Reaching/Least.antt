-- What asks an open now has a serial number from 1 on, and no record tells a greater one than the count of its site.
use Rattle.std.proofs.Common.{◌≡◌, ◌≤◌, ℕ, ◌+◌, Bool, true, false, cond, List, [], ◌∷◌, Option, Some, None, refl, sym, ◌∙◌, ap, subst, arith}
use Rattle.locus_ids.specs.declared.config.Config.{Config}
use Rattle.locus_ids.specs.declared.ids.CallId.{CallId}
use Rattle.locus_ids.specs.declared.ids.EpochId.{EpochId}
use Rattle.locus_ids.specs.declared.ids.FileId.{FileId}
use Rattle.locus_ids.specs.declared.ids.Mode.{Mode}
use Rattle.locus_ids.specs.declared.ids.Serial.{Serial}
use Rattle.trace_book.specs.Same.{same_call}
use Rattle.trace_book.specs.declared.record.Record.{Record}
use Rattle.trace_book.specs.declared.record.Record.TheVariants as says
use Rattle.role_steps.specs.Views.{Told, Shown, Takes}
use Rattle.the_run.specs.Worlds.{Line}
use Rattle.tree_model.specs.declared.accepted.Waiting.{Waiting}
use Rattle.tree_laws.specs.Following.{IsFollowed, MayTell, OpensInTime}
use Rattle.tree_laws.specs.Printed.{entries}
use Rattle.tree_laws.specs.Serials.{is_open_want, opens_asked, serial_asked}
use Rattle.tree_laws.proofs.Counting.{Opens, Turned, Unturned, accept_turned, asked_same, take_turned, up_still}
use Rattle.tree_laws.proofs.Fresh.{IsNamed}
use Rattle.tree_laws.proofs.Names.{same_call_eq}
use Rattle.tree_laws.proofs.Serials.{asks_opens, in_named}
use Rattle.rest_laws.specs.of_row_laws.Shown.{EachRecord, shown, with_told}
use Rattle.packet_laws.specs.Reaching.Reach.{IsReached, IsSerial, ReachedRecord}
use Rattle.packet_laws.proofs.Reaching.Lines.{EachLow, ListedRecord, ListedTold, With}

either : (b : Bool) (x y : ℕ) → x ≤ 134479872 → y ≤ 134479872 → cond b x y ≤ 134479872
either true x y h k = h
either false x y h k = k

-- ---- from 1 on ----

abbrev Least : Config → List Line → Type 0
Least c t = (d : CallId) → IsNamed (entries t) d → Opens c t d → 1 ≤ serial_asked c t d

least_turn : (c : Config) (older : List Line) (n : ℕ) (x : Told) (it : CallId) → Turned c older n x it → Least c older → Least c (With n x older)
least_turn c older n x it t k d named opens = at (same_call it d) refl
  where
    own : Opens c (With n x older) it → 1 ≤ serial_asked c (With n x older) it
    own o = let a : serial_asked c (With n x older) it ≡ opens_asked c (With n x older) it.site = t.serial_own in let b : opens_asked c (With n x older) it.site ≡ opens_asked c older it.site + 1 = t.count_open o in omega (arith, a, b)

    at : (b : Bool) → same_call it d ≡ b → 1 ≤ serial_asked c (With n x older) d
    at true e = let same : it ≡ d = same_call_eq it d e in subst (λ (y : CallId). 1 ≤ serial_asked c (With n x older) y) same (own (subst (Opens c (With n x older)) (sym same) opens))
    at false e = let o = t.other d named e in subst (λ (m : ℕ). 1 ≤ m) (sym (t.serial_other d e)) (k d o.0 (ap is_open_want (sym o.1) ∙ opens))

least_still : (c : Config) (older : List Line) (n : ℕ) (x : Told) → Unturned c older n x → Least c older → Least c (With n x older)
least_still c older n x u k d named opens = let o = u.each d named in subst (λ (m : ℕ). 1 ≤ m) (sym (u.serial d)) (k d o.0 (ap is_open_want (sym o.1) ∙ opens))

least_record : (c : Config) (older : List Line) (n : ℕ) (r : Record) → IsFollowed c older → MayTell c older (Shown r) → Least c older → Least c (With n (Shown r) older)
least_record c older n (says.Accept s process new words) h may k = least_turn c older n (Shown (says.Accept s process new words)) new (accept_turned c older n s process new words h may) k
least_record c older n (says.Up s boot) h may k = least_still c older n (Shown (says.Up s boot)) (up_still c older n s boot h may) k
least_record c older n r h may k = least_still c older n (Shown r) (record { each = λ d named. (named, asked_same c older n (Shown r) d h may named refl); serial = λ d. refl; count = λ d named now. (now, refl) }) k

least_told : (c : Config) (older : List Line) (n : ℕ) (x : Told) → IsFollowed c older → MayTell c older x → Least c older → Least c (With n x older)
least_told c older n (Shown r) h may k = least_record c older n r h may k
least_told c older n (Takes s it request times a) h may k = least_turn c older n (Takes s it request times a) it (take_turned c older n s it request times a h may) k
least_told c older n x h may k = least_still c older n x (record { each = λ d named. (named, asked_same c older n x d h may named refl); serial = λ d. refl; count = λ d named now. (now, refl) }) k

least : (c : Config) (t : List Line) → IsFollowed c t → Least c t
least c [] h d named opens = absurd (none named.0 named.1)
  where
    none : (w : Waiting) → ◌≡◌ {A = Option Waiting} None (Some w) → ⊥
    none w e = cc
least c (x ∷ older) h d named opens = least_told c older x.number x.told h.1 h.0 (least c older h.1) d named opens

-- ---- up to the bound ----

most_record : (c : Config) (n : ℕ) (r : Record) (older : List Line) (d : CallId) → ((site : ℕ) → opens_asked c (With n (Shown r) older) site ≤ 134479872) → serial_asked c older d ≤ 134479872 → serial_asked c (With n (Shown r) older) d ≤ 134479872
most_record c n (says.Accept s process new words) older d low k = either (same_call new d) (opens_asked c (With n (Shown (says.Accept s process new words)) older) s) (serial_asked c older d) (low s) k
most_record c n r older d low k = k

most_told : (c : Config) (n : ℕ) (x : Told) (older : List Line) (d : CallId) → ((site : ℕ) → opens_asked c (With n x older) site ≤ 134479872) → serial_asked c older d ≤ 134479872 → serial_asked c (With n x older) d ≤ 134479872
most_told c n (Shown r) older d low k = most_record c n r older d low k
most_told c n (Takes s it request times a) older d low k = either (same_call it d) (opens_asked c (With n (Takes s it request times a) older) s) (serial_asked c older d) (low s) k
most_told c n x older d low k = k

most : (c : Config) (t : List Line) (d : CallId) → EachLow c t → serial_asked c t d ≤ 134479872
most c [] d h = omega arith
most c (x ∷ older) d h = most_told c x.number x.told older d h.0.0 (most c older d h.1)

-- ---- records ----

opens_serial : (c : Config) (t : List Line) (e : EpochId) (d : CallId) (request : ℕ) (i : Serial) (m : Mode) (f : FileId) → IsFollowed c t → EachLow c t → OpensInTime c t e d request i m f → IsSerial d i
opens_serial c t e d request i m f h low o =
    let from : 1 ≤ serial_asked c t d = least c t h d (in_named t e d o.asks.inside) (asks_opens c t e d request i.serial o.asked o.it o.asks) in
    record {
      of_caller = o.user_is;
      least = subst (λ (k : ℕ). 1 ≤ k) (sym o.asks.serial_is) from;
      most = subst (λ (k : ℕ). k ≤ 134479872) (sym o.asks.serial_is) (most c t d low);
    }

record_reached : (c : Config) (t : List Line) (r : Record) → IsFollowed c t → MayTell c t (Shown r) → EachLow c t → ListedRecord r → ReachedRecord r
record_reached c t (says.Grant e d request i m f stamp ss) h may low listed = opens_serial c t e d request i m f h low may.in_time.opens
record_reached c t (says.Refuse e d request i m f why) h may low listed = opens_serial c t e d request i m f h low may.in_time.opens
record_reached c t (says.Packet n from to kind) h may low listed = listed
record_reached c t r h may low listed = tt

pub each_reached : (c : Config) (t : List Line) → IsFollowed c t → EachLow c t → EachRecord IsReached (shown t)
each_reached c [] h low = tt
each_reached c (x ∷ older) h low = over x.told h.0 low.0.1 (each_reached c older h.1 low.1)
  where
    over : (y : Told) → MayTell c older y → ListedTold y → EachRecord IsReached (shown older) → EachRecord IsReached (with_told x.number y (shown older))
    over (Shown r) may listed rest = (record_reached c older r h.1 may low.1 listed, rest)
    over y may listed rest = rest
