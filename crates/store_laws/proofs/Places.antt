-- What was granted is begun at the storage site that its grant names, and at no other.
use Rattle.std.proofs.Common.{◌≡◌, ℕ, List, [], ◌∷◌, Option, Some, refl, sym, ◌∙◌, ap, subst, ◌⊎◌, inl, inr}
use Rattle.locus_ids.specs.declared.config.Config.{Config}
use Rattle.locus_ids.specs.declared.ids.CallId.{CallId}
use Rattle.locus_ids.specs.declared.ids.EpochId.{EpochId}
use Rattle.locus_ids.specs.declared.ids.FileId.{FileId}
use Rattle.locus_ids.specs.declared.ids.Mode.{Mode}
use Rattle.locus_ids.specs.declared.ids.Mode.TheVariants as mode
use Rattle.locus_ids.specs.declared.ids.Serial.{Serial}
use Rattle.locus_ids.specs.declared.ids.Stamp.{Stamp}
use Rattle.trace_book.specs.declared.record.Record.{Record}
use Rattle.trace_book.specs.declared.record.Record.TheVariants as says
use Rattle.call_rules.specs.declared.want.Want.{Want}
use Rattle.wire_messages.specs.declared.body.Opening.TheVariants as how
use Rattle.role_steps.specs.Opens.{mode_of}
use Rattle.role_steps.specs.Own.{Every}
use Rattle.role_steps.specs.Views.{Told, Shown, Begins}
use Rattle.the_run.specs.Worlds.{Line}
use Rattle.tree_model.specs.declared.instance.Granted.{Granted}
use Rattle.tree_model.specs.declared.instance.Instance.{Instance}
use Rattle.tree_model.specs.Histories.{history}
use Rattle.tree_model.specs.State.{TreeState, is_named}
use Rattle.tree_model.specs.Tree.{tree_of}
use Rattle.lawful_trace.specs.TreeRows.{granted_group}
use Rattle.tree_laws.specs.Printed.{entries, onto_entries}
use Rattle.tree_laws.specs.Calls.{Asks}
use Rattle.tree_laws.specs.Following.{MayTell, IsFollowed, BeginsGranted, BeginsMade}
use Rattle.tree_laws.specs.Instances.{instance_now, AsksOpen, IsOpening}
use Rattle.tree_laws.specs.Past.{Printed, GrantRecord, WasGranted, WasNamed, WasBegun, BeginsIt}
use Rattle.tree_laws.proofs.CarriedLooks.{More, one_want}
use Rattle.tree_laws.proofs.Kinship.{tree_epoch_is}
use Rattle.tree_laws.proofs.Making.{IsAskedAt, begun_asked, one_opening}
use Rattle.tree_laws.proofs.Opened.{found_named}
use Rattle.tree_laws.proofs.Owing.{GrantHas, grants_have, found_every}
use Rattle.tree_laws.proofs.Serials.{one_open, unnamed}
use Rattle.store_laws.proofs.Begun.{granted_named}

-- ---- an instance is granted once ----

-- the two grants are one
pub record AreOne (d b : CallId) (m n : Mode) (f g : FileId) (s t : Option Stamp) (ss place : ℕ) : Type 0 where
  pub call_is : d ≡ b
  pub mode_is : m ≡ n
  pub file_is : f ≡ g
  pub stamp_is : s ≡ t
  pub place_is : ss ≡ place

granted_anew : (c : Config) (older : List Line) (e : EpochId) (d b : CallId) (request r : ℕ) (i : Serial) (m n : Mode) (f g : FileId) (s t : Option Stamp) (ss place : ℕ) (z : Told) → MayTell c older z → Printed (GrantRecord e d request i m f s ss) older z → WasGranted older e b r i n g t place → ⊥
granted_anew c older e d b request r i m n f g s t ss place (Shown (says.Grant at call number inst how_so file on there)) may p k = may.in_time.new (subst (λ (j : Serial). WasNamed older at j) (sym p.serial_is) (subst (λ (y : EpochId). WasNamed older y i) (sym p.epoch_is) (granted_named older e b r i n g t place k)))
granted_anew c older e d b request r i m n f g s t ss place _ may p k = absurd p

pub granted_once : (c : Config) (trace : List Line) → IsFollowed c trace → (e : EpochId) (d b : CallId) (request r : ℕ) (i : Serial) (m n : Mode) (f g : FileId) (s t : Option Stamp) (ss place : ℕ) → WasGranted trace e d request i m f s ss → WasGranted trace e b r i n g t place → AreOne d b m n f g s t ss place
granted_once c [] h e d b request r i m n f g s t ss place j k = absurd j
granted_once c (x ∷ older) h e d b request r i m n f g s t ss place (inr j) (inr k) = granted_once c older h.1 e d b request r i m n f g s t ss place j k
granted_once c (x ∷ older) h e d b request r i m n f g s t ss place (inl j) (inr k) = absurd (granted_anew c older e d b request r i m n f g s t ss place x.told h.0 j k)
granted_once c (x ∷ older) h e d b request r i m n f g s t ss place (inr j) (inl k) = absurd (granted_anew c older e b d r request i n m g f t s place ss x.told h.0 k j)
granted_once c (x ∷ older) h e d b request r i m n f g s t ss place (inl j) (inl k) = both x.told j k
  where
    both : (z : Told) → Printed (GrantRecord e d request i m f s ss) older z → Printed (GrantRecord e b r i n g t place) older z → AreOne d b m n f g s t ss place
    both (Shown (says.Grant at call number inst how_so file on there)) p q = record { call_is = sym p.call_is ∙ q.call_is; mode_is = sym p.mode_is ∙ q.mode_is; file_is = sym p.file_is ∙ q.file_is; stamp_is = sym p.stamp_is ∙ q.stamp_is; place_is = sym p.place_is ∙ q.place_is }
    both _ p q = absurd p

-- ---- what is open was granted so ----

pub record GrantedSo (trace : List Line) (e : EpochId) (g : Granted) : Type 0 where
  pub request : ℕ
  pub stamp : Option Stamp
  pub was_granted : WasGranted trace e g.call request g.inst g.mode g.file stamp g.ss

granted_more : (n : ℕ) (x : Told) (older : List Line) (e : EpochId) (xs : List Instance) → Every (λ (y : Instance). GrantedSo older e y.grant) xs → Every (λ (y : Instance). GrantedSo (More n x older) e y.grant) xs
granted_more n x older e [] k = tt
granted_more n x older e (y ∷ ys) k = (record { request = k.0.request; stamp = k.0.stamp; was_granted = inr k.0.was_granted }, granted_more n x older e ys k.1)

granted_here : (c : Config) (n : ℕ) (older : List Line) (e : EpochId) (g : ℕ) (r : Record) → GrantHas (λ (y : Granted). GrantedSo (More n (Shown r) older) e y) (tree_of c e g (entries older)) r
granted_here c n older e g (says.Grant at call request i m f stamp ss) = λ same group. record { request = request; stamp = stamp; was_granted = inl (record { epoch_is = same ∙ tree_epoch_is c e g (entries older); call_is = refl; request_is = refl; serial_is = refl; mode_is = refl; file_is = refl; stamp_is = refl; place_is = refl }) }
granted_here c n older e g _ = tt

open_granted_told : (c : Config) (n : ℕ) (x : Told) (older : List Line) (e : EpochId) (g : ℕ) → Every (λ (y : Instance). GrantedSo older e y.grant) (tree_of c e g (entries older)).instances → Every (λ (y : Instance). GrantedSo (More n x older) e y.grant) (tree_of c e g (onto_entries n x (entries older))).instances
open_granted_told c n (Shown r) older e g k = grants_have (λ (y : Granted). GrantedSo (More n (Shown r) older) e y) (history c (entries older)) r (tree_of c e g (entries older)) (granted_here c n older e g r) (granted_more n (Shown r) older e (tree_of c e g (entries older)).instances k)
open_granted_told c n x older e g k = granted_more n x older e (tree_of c e g (entries older)).instances k

open_granted : (c : Config) (trace : List Line) (e : EpochId) (g : ℕ) → Every (λ (y : Instance). GrantedSo trace e y.grant) (tree_of c e g (entries trace)).instances
open_granted c [] e g = tt
open_granted c (x ∷ older) e g = open_granted_told c x.number x.told older e g (open_granted c older e g)

-- an instance that is open was granted as it is, under its name
pub instance_granted : (c : Config) (trace : List Line) (e : EpochId) (i : Serial) (x : Instance) → instance_now c trace e i ≡ Some x → GrantedSo trace e x.grant × (x.grant.inst ≡ i)
instance_granted c trace e i x k = (found_every (λ (y : Instance). GrantedSo trace e y.grant) (is_named i) t.instances x k (open_granted c trace e (granted_group (entries trace) e i)), found_named i t.instances x k)
  where
    t : TreeState
    t = tree_of c e (granted_group (entries trace) e i) (entries trace)

-- what is open is what was granted
pub open_is : (c : Config) (trace : List Line) → IsFollowed c trace → (e : EpochId) (d : CallId) (request : ℕ) (i : Serial) (m : Mode) (f : FileId) (s : Option Stamp) (ss : ℕ) (x : Instance) → WasGranted trace e d request i m f s ss → instance_now c trace e i ≡ Some x → (x.grant.mode ≡ m) × (x.grant.file ≡ f) × (x.grant.ss ≡ ss) × (x.grant.call ≡ d)
open_is c trace h e d request i m f s ss x k found = (let g : GrantedSo trace e x.grant × (x.grant.inst ≡ i) = instance_granted c trace e i x found in
    let one : AreOne x.grant.call d x.grant.mode m x.grant.file f g.0.stamp s x.grant.ss ss = granted_once c trace h e x.grant.call d g.0.request request i x.grant.mode m x.grant.file f g.0.stamp s x.grant.ss ss (subst (λ (j : Serial). WasGranted trace e x.grant.call g.0.request j x.grant.mode x.grant.file g.0.stamp x.grant.ss) g.1 g.0.was_granted) k in
    (one.mode_is, one.file_is, one.place_is, one.call_is))

-- ---- where it is begun ----

-- a grant of what is begun and isn't named is that of a make
granted_begun : (c : Config) (older : List Line) → IsFollowed c older → (e : EpochId) (d : CallId) (request : ℕ) (i : Serial) (m : Mode) (f g : FileId) (s : Option Stamp) (ss site : ℕ) (z : Told) → MayTell c older z → Printed (GrantRecord e d request i m f s ss) older z → WasBegun older site e i g → m ≡ mode.Make
granted_begun c older h e d request i m f g s ss site (Shown (says.Grant at call number inst how_so file on there)) may p b = over (begun_asked c older h e site i g b)
  where
    asks : AsksOpen c older e call number i.serial may.in_time.opens.asked may.in_time.opens.it
    asks = subst (λ (j : Serial). AsksOpen c older e call number j.serial may.in_time.opens.asked may.in_time.opens.it) p.serial_is (subst (λ (y : EpochId). AsksOpen c older y call number inst.serial may.in_time.opens.asked may.in_time.opens.it) p.epoch_is may.in_time.opens.asks)

    over : WasNamed older e i ⊎ IsAskedAt c older e site i g → m ≡ mode.Make
    over (inl named) = absurd (may.in_time.new (subst (λ (j : Serial). WasNamed older at j) (sym p.serial_is) (subst (λ (y : EpochId). WasNamed older y i) (sym p.epoch_is) named)))
    over (inr k) = sym p.mode_is ∙ (sym may.in_time.opens.mode_is ∙ ap mode_of (one_opening c k.asks.wanted may.in_time.opens.asked k.asked may.in_time.opens.it (how.Make k.set k.kind)
        (subst (λ (w : Want). IsOpening c w may.in_time.opens.asked may.in_time.opens.it) (one_want c older k.call asks.wanted k.asks.wanted (subst (λ (y : CallId). Asks c older y asks.wanted) call_is asks.asks) k.asks.asks) asks.opening_is) k.asks.opening_is))
      where
        call_is : call ≡ k.call
        call_is = one_open c older e call k.call number k.request i.serial may.in_time.opens.asked k.asked may.in_time.opens.it (how.Make k.set k.kind) h asks k.asks (sym may.in_time.opens.user_is ∙ (ap (λ (j : Serial). j.us) p.serial_is ∙ k.user_is))
granted_begun c older h e d request i m f g s ss site _ may p b = absurd p

-- what is begun after its grant is begun where the grant says
begun_granted : (c : Config) (older : List Line) → IsFollowed c older → (e : EpochId) (d : CallId) (request : ℕ) (i : Serial) (m : Mode) (f g : FileId) (s : Option Stamp) (ss site : ℕ) (z : Told) → MayTell c older z → BeginsIt site e i g older z → WasGranted older e d request i m f s ss → site ≡ ss
begun_granted c older h e d request i m f g s ss site (Begins there at inst file) may p k = sym p.site_is ∙ over may.may
  where
    granted : WasGranted older at d request inst m f s ss
    granted = subst (λ (j : Serial). WasGranted older at d request j m f s ss) (sym p.serial_is) (subst (λ (y : EpochId). WasGranted older y d request i m f s ss) (sym p.epoch_is) k)

    over : BeginsGranted c older there at inst file ⊎ BeginsMade c older there at inst file → there ≡ ss
    over (inl b) = sym b.open_at.place ∙ (open_is c older h at d request inst m f s ss b.at granted b.open_at.found).2
    over (inr b) = absurd (unnamed c older at b.call b.request inst b.asked (how.Make b.set b.kind) h b.asks b.user_is (granted_named older at d request inst m f s ss granted))
begun_granted c older h e d request i m f g s ss site _ may p k = absurd p

-- what was granted, but for makes, is begun at no other site
pub plain_place : (c : Config) (trace : List Line) → IsFollowed c trace → (e : EpochId) (d : CallId) (request : ℕ) (i : Serial) (m : Mode) (f g : FileId) (s : Option Stamp) (ss site : ℕ) → (m ≡ mode.Make → ⊥) → WasGranted trace e d request i m f s ss → WasBegun trace site e i g → site ≡ ss
plain_place c [] h e d request i m f g s ss site plain k b = absurd k
plain_place c (x ∷ older) h e d request i m f g s ss site plain (inr k) (inr b) = plain_place c older h.1 e d request i m f g s ss site plain k b
plain_place c (x ∷ older) h e d request i m f g s ss site plain (inl k) (inr b) = absurd (plain (granted_begun c older h.1 e d request i m f g s ss site x.told h.0 k b))
plain_place c (x ∷ older) h e d request i m f g s ss site plain (inr k) (inl b) = begun_granted c older h.1 e d request i m f g s ss site x.told h.0 b k
plain_place c (x ∷ older) h e d request i m f g s ss site plain (inl k) (inl b) = absurd (both x.told k b)
  where
    both : (z : Told) → Printed (GrantRecord e d request i m f s ss) older z → BeginsIt site e i g older z → ⊥
    both (Begins there at inst file) p q = p
    both (Shown r) p q = q
    both _ p q = p
