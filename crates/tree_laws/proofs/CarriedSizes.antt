-- What is found of the bytes of a version that is opened to read stays when a line is added that comes as it may.
use Rattle.std.proofs.Common.{◌≡◌, ℕ, List, ◌∷◌, Option, Some, refl, sym, ◌∙◌, ap, subst, ◌⊎◌, inl, inr}
use Rattle.std.specs.Prelude.{length}
use Rattle.locus_ids.specs.declared.config.Config.{Config}
use Rattle.locus_ids.specs.declared.ids.CallId.{CallId}
use Rattle.locus_ids.specs.declared.ids.EpochId.{EpochId}
use Rattle.locus_ids.specs.declared.ids.FileId.{FileId}
use Rattle.locus_ids.specs.declared.ids.Mode.{Mode}
use Rattle.locus_ids.specs.declared.ids.Mode.TheVariants as mode
use Rattle.locus_ids.specs.declared.ids.Serial.{Serial}
use Rattle.locus_ids.specs.declared.ids.Stamp.{Stamp}
use Rattle.trace_book.specs.declared.record.Record.TheVariants as says
use Rattle.call_rules.specs.declared.want.Want.{Want}
use Rattle.the_run.specs.of_wire_messages.declared.body.Opening.{Opening}
use Rattle.the_run.specs.of_wire_messages.declared.body.Opening.TheVariants as how
use Rattle.the_run.specs.of_role_steps.Opens.{mode_of}
use Rattle.the_run.specs.of_role_steps.Views.{Told, Shown}
use Rattle.the_run.specs.Worlds.{Line}
use Rattle.tree_laws.specs.Calls.{Asks}
use Rattle.tree_laws.specs.Following.{MayTell, IsFollowed, OpensInTime}
use Rattle.tree_laws.specs.Frames.{VersionsStay}
use Rattle.tree_laws.specs.Instances.{AsksOpen, IsOpening}
use Rattle.tree_laws.specs.Packets.{BegunSize, HasSize}
use Rattle.tree_laws.specs.Past.{GrantRecord, Printed, WasBegun, WasNamed}
use Rattle.tree_laws.proofs.CarriedLooks.{More, one_epoch, one_want}
use Rattle.tree_laws.proofs.Making.{IsAskedAt, begun_asked, one_opening}
use Rattle.tree_laws.proofs.Serials.{one_open}

pub size_stays : (c : Config) (old new : List Line) → VersionsStay c old new → (f : FileId) (m : Mode) (stamp : Option Stamp) (size : ℕ) → HasSize c old f m stamp size → HasSize c new f m stamp size
size_stays c old new v f mode.Read stamp size h = (h.0, h.1, v.stands f h.0 h.2, ap length (v.contents f h.0 h.2) ∙ h.3)
size_stays c old new v f mode.Write stamp size h = tt
size_stays c old new v f mode.Resolve stamp size h = tt
size_stays c old new v f mode.Mend stamp size h = tt
size_stays c old new v f mode.Make stamp size h = tt

-- a make isn't asked to read
asked_unread : (c : Config) (older : List Line) → IsFollowed c older → (e : EpochId) (s : ℕ) (i : Serial) (f : FileId) → IsAskedAt c older e s i f → (at : EpochId) (call : CallId) (request : ℕ) (inst : Serial) (m : Mode) (g : FileId) → OpensInTime c older at call request inst m g → at ≡ e → inst ≡ i → m ≡ mode.Read → ⊥
asked_unread c older h e s i f k at call request inst m g o same_at same_inst read = make_read (sym (ap mode_of it_is) ∙ (o.mode_is ∙ read))
  where
    make_read : mode.Make ≡ mode.Read → ⊥
    make_read q = cc

    asks : AsksOpen c older e call request i.serial o.asked o.it
    asks = subst (λ (j : Serial). AsksOpen c older e call request j.serial o.asked o.it) same_inst (subst (λ (y : EpochId). AsksOpen c older y call request inst.serial o.asked o.it) same_at o.asks)

    call_is : k.call ≡ call
    call_is = one_open c older e k.call call k.request request i.serial k.asked o.asked (how.Make k.set k.kind) o.it h k.asks asks (sym k.user_is ∙ (ap (λ (j : Serial). j.us) (sym same_inst) ∙ o.user_is))

    wanted : IsOpening c asks.wanted k.asked (how.Make k.set k.kind)
    wanted = subst (λ (w : Want). IsOpening c w k.asked (how.Make k.set k.kind)) (one_want c older call k.asks.wanted asks.wanted (subst (λ (y : CallId). Asks c older y k.asks.wanted) call_is k.asks.asks) asks.asks) k.asks.opening_is

    it_is : o.it ≡ how.Make k.set k.kind
    it_is = one_opening c asks.wanted o.asked k.asked o.it (how.Make k.set k.kind) asks.opening_is wanted

-- what was begun isn't granted to read any more
begun_unread : (c : Config) (x : Told) (older : List Line) → IsFollowed c older → MayTell c older x → (e : EpochId) (s : ℕ) (i : Serial) (f : FileId) → WasBegun older s e i f → (d : CallId) (request : ℕ) (g : FileId) (stamp : Option Stamp) (place : ℕ) → Printed (GrantRecord e d request i mode.Read g stamp place) older x → ⊥
begun_unread c (Shown (says.Grant at call number inst m file on place)) older h may e s i f begun d request g stamp ss p = over (begun_asked c older h e s i f begun)
  where
    over : WasNamed older e i ⊎ IsAskedAt c older e s i f → ⊥
    over (inl named) = may.in_time.new (subst (λ (y : EpochId). WasNamed older y inst) (sym p.epoch_is) (subst (WasNamed older e) (sym p.serial_is) named))
    over (inr k) = asked_unread c older h e s i f k at call number inst m file may.in_time.opens p.epoch_is p.serial_is p.mode_is
begun_unread c _ older h may e s i f begun d request g stamp ss p = absurd p

pub begun_size_stays : (c : Config) (n : ℕ) (x : Told) (older : List Line) → IsFollowed c older → MayTell c older x → VersionsStay c older (More n x older) → (e : EpochId) (ss : ℕ) (i : Serial) (f : FileId) (size : ℕ) → WasBegun older ss e i f → BegunSize c older e i size → BegunSize c (More n x older) e i size
begun_size_stays c n x older h may versions e ss i f size begun k call request g stamp site (inl p) = absurd (begun_unread c x older h may e ss i f begun call request g stamp site p)
begun_size_stays c n x older h may versions e ss i f size begun k call request g stamp site (inr was) = size_stays c older (More n x older) versions g mode.Read stamp size (k call request g stamp site was)
