-- The call that makes a file stays its maker: it asks the make until it is granted it, since its file is begun and its set is good.
use Rattle.std.proofs.Common.{◌≡◌, ℕ, ◌==◌, Bool, true, false, ◌&&◌, not, List, Option, Some, None, refl, sym, ◌∙◌, ap, subst, ◌⊎◌, inl, inr}
use Rattle.std.specs.Option.{is_none, option_map}
use Rattle.role_steps.proofs.of_plain_facts.Options.{some_same}
use Rattle.role_steps.proofs.of_plain_facts.Tests.{and_second, true_false}
use Rattle.trace_book.specs.declared.call.Call.{Call}
use Rattle.tree_model.specs.declared.accepted.Waiting.{Waiting}
use Rattle.locus_ids.specs.declared.config.Config.{Config}
use Rattle.locus_ids.specs.declared.ids.CallId.{CallId}
use Rattle.locus_ids.specs.declared.ids.EpochId.{EpochId}
use Rattle.locus_ids.specs.declared.ids.FileId.{FileId}
use Rattle.locus_ids.specs.declared.ids.Mode.{Mode}
use Rattle.locus_ids.specs.declared.ids.Mode.TheVariants as mode
use Rattle.locus_ids.specs.declared.ids.Serial.{Serial}
use Rattle.locus_ids.specs.declared.ids.Stamp.{Stamp}
use Rattle.locus_ids.specs.declared.sites.Members.{Members}
use Rattle.commit_graph.specs.declared.history.Version.{Version}
use Rattle.locus_ids.specs.declared.refusal.Refusal.{Refusal}
use Rattle.trace_book.specs.declared.record.Record.{Record}
use Rattle.trace_book.specs.declared.record.Record.TheVariants as says
use Rattle.call_rules.specs.declared.want.Want.{Want}
use Rattle.call_rules.specs.declared.want.Want.TheVariants as want
use Rattle.wire_messages.specs.declared.body.Opening.TheVariants as how
use Rattle.role_steps.specs.Opens.{mode_of}
use Rattle.role_steps.specs.Views.{Frame, Told, Shown}
use Rattle.role_steps.specs.declared.instances.Instance.{Instance}
use Rattle.the_run.specs.Worlds.{Line}
use Rattle.tree_model.specs.Epochs.{members_of}
use Rattle.tree_model.specs.Files.{words_named, kind_made}
use Rattle.tree_model.specs.Given.{gives_grant}
use Rattle.tree_model.specs.Histories.{history}
use Rattle.tree_model.specs.Opening.{open_refusal, is_new_file, sites_made}
use Rattle.tree_model.specs.Packs.{is_good_set, making_site_in, packs_of}
use Rattle.tree_model.specs.State.{TreeState, is_granted}
use Rattle.tree_model.specs.Tree.{tree_of}
use Rattle.lawful_trace.specs.TreeRows.{IsCallIn}
use Rattle.tree_laws.specs.Printed.{entries}
use Rattle.tree_laws.specs.Calls.{Asks}
use Rattle.tree_laws.specs.Following.{MayTell, IsFollowed, MakesInTime, FindsNoNumber, RefusesMake}
use Rattle.tree_laws.specs.Frames.{VersionsStay}
use Rattle.tree_laws.specs.Instances.{IsOpening}
use Rattle.tree_laws.specs.Packets.{MakesNow}
use Rattle.tree_laws.specs.Past.{WasBegun}
use Rattle.tree_laws.specs.Stores.{IsMaker, LiesAs, PlainLies}
use Rattle.tree_laws.proofs.Asking.{AsksStill, StepRecord, StepOf, asks_stays}
use Rattle.tree_laws.proofs.CarriedLooks.{More, one_epoch, one_want, number_same}
use Rattle.tree_laws.proofs.Kinship.{started_stays}
use Rattle.tree_laws.proofs.Making.{its_opening, its_serial, one_group, members_told}
use Rattle.tree_laws.proofs.Scripts.{in_stays, named_stays}
use Rattle.store_laws.proofs.Begun.{begun_one, granted_in}

-- ---- a grant or a refusal of the make ----

none_is : (o : Option Stamp) → is_none o ≡ true → o ≡ None
none_is None e = refl
none_is (Some s) e = absurd (true_false (sym e))

-- a granted make stands on no version
made_on_none : (h : List Version) (t : TreeState) (call : CallId) (i : Serial) (f : FileId) (stamp : Option Stamp) (ss : ℕ) → gives_grant h t call i mode.Make f stamp ss ≡ true → stamp ≡ None
made_on_none h t call i f stamp ss g = none_is stamp (and_second (is_new_file t call f ss) (is_none stamp)
    (and_second (not (is_granted t i)) (is_new_file t call f ss && is_none stamp)
    (and_second (i.us == call.site) (not (is_granted t i) && (is_new_file t call f ss && is_none stamp))
    (and_second (is_none (open_refusal h t mode.Make call f)) ((i.us == call.site) && (not (is_granted t i) && (is_new_file t call f ss && is_none stamp)))
    (and_second t.started (is_none (open_refusal h t mode.Make call f) && ((i.us == call.site) && (not (is_granted t i) && (is_new_file t call f ss && is_none stamp)))) g)))))

-- what a grant of this make says
pub record IsItsGrant (f : Frame) (i : Instance) (at : EpochId) (inst : Serial) (m : Mode) (file : FileId) (stamp : Option Stamp) (ss : ℕ) : Type 0 where
  pub epoch_is : at ≡ f.epoch
  pub serial_is : inst ≡ i.inst
  pub mode_is : m ≡ mode.Make
  pub file_is : file ≡ i.file
  pub stamp_is : stamp ≡ None
  pub place_is : ss ≡ f.me

pub its_grant : (c : Config) (older : List Line) → IsFollowed c older → (f : Frame) (i : Instance) → WasBegun older f.me f.epoch i.inst i.file → (now : MakesNow c older f.epoch f.me i.inst i.file.group i.set i.kind) (at : EpochId) (call : CallId) (request : ℕ) (inst : Serial) (m : Mode) (file : FileId) (stamp : Option Stamp) (ss : ℕ) →
    MayTell c older (Shown (says.Grant at call request inst m file stamp ss)) → call ≡ now.call → IsItsGrant f i at inst m file stamp ss
its_grant c older h f i begun now at call request inst m file stamp ss may step = record {
  epoch_is = epoch_is;
  serial_is = serial_is;
  mode_is = mode_is;
  file_is = (one begun_there).1;
  stamp_is = made_on_none (history c (entries older)) (tree_of c at file.group (entries older)) call inst file stamp ss (subst (λ (k : Mode). gives_grant (history c (entries older)) (tree_of c at file.group (entries older)) call inst k file stamp ss ≡ true) mode_is may.row.gives);
  place_is = (one begun_there).0;
}
  where
    epoch_is : at ≡ f.epoch
    epoch_is = one_epoch older at f.epoch now.call (subst (λ (y : CallId). IsCallIn (entries older) at y) step may.row.opens.step) now.asks.inside

    serial_is : inst ≡ i.inst
    serial_is = its_serial c older f.epoch at f.me i.inst i.file.group i.set i.kind now call request inst m file may.in_time.opens step

    mode_is : m ≡ mode.Make
    mode_is = sym may.in_time.opens.mode_is ∙ ap mode_of (its_opening c older f.epoch at f.me i.inst i.file.group i.set i.kind now call request inst m file may.in_time.opens step)

    begun_there : WasBegun older ss f.epoch i.inst file
    begun_there = subst (λ (y : EpochId). WasBegun older ss y i.inst file) epoch_is (subst (λ (j : Serial). WasBegun older ss at j file) serial_is (subst (MakesInTime older at inst file ss) mode_is may.in_time.makes))

    one : WasBegun older ss f.epoch i.inst file → (ss ≡ f.me) × (file ≡ i.file)
    one b = begun_one c older h f.epoch i.inst ss f.me file i.file b begun

-- a make that is begun, with a good set, isn't refused
pub not_refused : (c : Config) (older : List Line) (f : Frame) (i : Instance) → WasBegun older f.me f.epoch i.inst i.file → (now : MakesNow c older f.epoch f.me i.inst i.file.group i.set i.kind) (at : EpochId) (call : CallId) (request : ℕ) (inst : Serial) (m : Mode) (file : FileId) (why : Refusal) →
    MayTell c older (Shown (says.Refuse at call request inst m file why)) → call ≡ now.call → ⊥
not_refused c older f i begun now at call request inst m file why may step = over (subst (RefusesMake c older at call inst file why) opening may.in_time.make)
  where
    opening : may.in_time.opens.it ≡ how.Make i.set i.kind
    opening = its_opening c older f.epoch at f.me i.inst i.file.group i.set i.kind now call request inst m file may.in_time.opens step

    epoch_is : at ≡ f.epoch
    epoch_is = one_epoch older at f.epoch now.call (subst (λ (y : CallId). IsCallIn (entries older) at y) step may.row.opens.step) now.asks.inside

    serial_is : inst ≡ i.inst
    serial_is = its_serial c older f.epoch at f.me i.inst i.file.group i.set i.kind now call request inst m file may.in_time.opens step

    group_is : file.group ≡ i.file.group
    group_is = may.in_time.opens.group_is ∙ (one_group c now.asks.wanted may.in_time.opens.asked now.file may.in_time.opens.it i.set i.kind
        (subst (λ (w : Want). IsOpening c w may.in_time.opens.asked may.in_time.opens.it) (one_want c older now.call may.in_time.opens.asks.wanted now.asks.wanted (subst (λ (y : CallId). Asks c older y may.in_time.opens.asks.wanted) step may.in_time.opens.asks.asks) now.asks.asks) may.in_time.opens.asks.opening_is) now.asks.opening_is
        ∙ now.group_is)

    over : FindsNoNumber c older at call inst file.group i.set why ⊎ (is_good_set c file.group (members_of (entries older) at) i.set ≡ false) → ⊥
    over (inl none) = none.unbegun f.me i.file (subst (λ (y : EpochId). WasBegun older f.me y inst i.file) (sym epoch_is) (subst (λ (j : Serial). WasBegun older f.me f.epoch j i.file) (sym serial_is) begun))
    over (inr bad) = true_false (sym now.good ∙ subst (λ (g : ℕ). is_good_set c g (members_of (entries older) f.epoch) i.set ≡ false) group_is (subst (λ (y : EpochId). is_good_set c file.group (members_of (entries older) y) i.set ≡ false) epoch_is bad))

-- ---- the maker ----

maker_step : (c : Config) (n : ℕ) (older : List Line) → IsFollowed c older → (f : Frame) (i : Instance) → WasBegun older f.me f.epoch i.inst i.file → (now : MakesNow c older f.epoch f.me i.inst i.file.group i.set i.kind) (r : Record) → MayTell c older (Shown r) → StepRecord (entries older) r now.call → IsMaker c (More n (Shown r) older) f i now.call
maker_step c n older h f i begun now (says.Grant at call request inst m file stamp ss) may step = (let g : IsItsGrant f i at inst m file stamp ss = its_grant c older h f i begun now at call request inst m file stamp ss may step in
    inr (request, inl (record { epoch_is = g.epoch_is; call_is = step; request_is = refl; serial_is = g.serial_is; mode_is = g.mode_is; file_is = g.file_is; stamp_is = g.stamp_is; place_is = g.place_is })))
maker_step c n older h f i begun now (says.Refuse at call request inst m file why) may step = absurd (not_refused c older f i begun now at call request inst m file why may step)
maker_step c n older h f i begun now (says.Look at call number file what result) may step = absurd (subst (λ (y : Want). IsOpening c y now.file (how.Make i.set i.kind)) (one_want c older now.call now.asks.wanted (want.Look file what) now.asks.asks (subst (λ (y : CallId). Asks c older y (want.Look file what)) step may.in_time.asks)) now.asks.opening_is)
maker_step c n older h f i begun now (says.Act at inst number o result) may step = absurd (subst (λ (y : Want). IsOpening c y now.file (how.Make i.set i.kind)) (one_want c older now.call now.asks.wanted (want.Do inst o) now.asks.asks (subst (λ (y : CallId). Asks c older y (want.Do inst o)) (some_same may.in_time.call now.call (sym may.in_time.owner ∙ step)) may.in_time.asks)) now.asks.opening_is)
maker_step c n older h f i begun now (says.Release at inst file stamp) may step = absurd (subst (λ (y : Want). IsOpening c y now.file (how.Make i.set i.kind)) (one_want c older now.call now.asks.wanted (want.Close inst) now.asks.asks (subst (λ (y : CallId). Asks c older y (want.Close inst)) (some_same may.in_time.call now.call (sym may.in_time.owner ∙ step)) may.in_time.asks)) now.asks.opening_is)
maker_step c n older h f i begun now _ may step = absurd step

makes_still : (c : Config) (n : ℕ) (x : Told) (older : List Line) → IsFollowed c older → MayTell c older x → (f : Frame) (i : Instance) → WasBegun older f.me f.epoch i.inst i.file → (now : MakesNow c older f.epoch f.me i.inst i.file.group i.set i.kind) → IsMaker c (More n x older) f i now.call
makes_still c n x older h may f i begun now = over x may (in_stays c n x older f.epoch now.call h may now.asks.inside) (members_told c n x older f.epoch now.call may now.asks.inside) (asks_stays c n x older now.call now.asks.wanted h may (now.asks.inside.accepted, now.asks.inside.named) now.asks.asks)
  where
    over : (y : Told) → MayTell c older y → IsCallIn (entries (More n y older)) f.epoch now.call → members_of (entries (More n y older)) f.epoch ≡ members_of (entries older) f.epoch → AsksStill c older n y now.call now.asks.wanted ⊎ StepOf older y now.call → IsMaker c (More n y older) f i now.call
    over y m inside members (inl s) = inl (record {
      now = record {
        call = now.call;
        request = now.request;
        file = now.file;
        asks = record { wanted = now.asks.wanted; asks = s.asks; opening_is = now.asks.opening_is; inside = inside; request_is = now.asks.request_is ∙ number_same n y older now.call s.log_same; serial_is = now.asks.serial_is ∙ sym s.serial_is };
        user_is = now.user_is;
        group_is = now.group_is;
        started = started_stays c n y older f.epoch i.file.group now.started;
        good = subst (λ (o : Option Members). is_good_set c i.file.group o i.set ≡ true) (sym members) now.good;
        at = subst (λ (o : Option Members). making_site_in c i.file.group o now.call.site i.set ≡ Some f.me) (sym members) now.at;
      };
      call_is = refl;
    })
    over (Shown r) m inside members (inr step) = maker_step c n older h f i begun now r m step
    over _ m inside members (inr step) = absurd step

pub maker_stays : (c : Config) (n : ℕ) (x : Told) (older : List Line) → IsFollowed c older → MayTell c older x → (f : Frame) (i : Instance) → WasBegun older f.me f.epoch i.inst i.file → (d : CallId) → IsMaker c older f i d → IsMaker c (More n x older) f i d
maker_stays c n x older h may f i begun d (inl m) = subst (λ (y : CallId). IsMaker c (More n x older) f i y) m.call_is (makes_still c n x older h may f i begun m.now)
maker_stays c n x older h may f i begun d (inr g) = inr (g.0, inr g.1)

pub maker_in : (c : Config) (trace : List Line) → IsFollowed c trace → (f : Frame) (i : Instance) (d : CallId) → IsMaker c trace f i d → IsCallIn (entries trace) f.epoch d
maker_in c trace h f i d (inl m) = subst (λ (y : CallId). IsCallIn (entries trace) f.epoch y) m.call_is m.now.asks.inside
maker_in c trace h f i d (inr g) = granted_in c trace h f.epoch d g.0 i.inst mode.Make i.file None f.me g.1

-- ---- the sites and the kind of the file ----

plain_lies : (c : Config) (n : ℕ) (x : Told) (older : List Line) → VersionsStay c older (More n x older) → (i : Instance) → PlainLies c older i → PlainLies c (More n x older) i
plain_lies c n x older v i l = record { stamp = l.stamp; stands = v.stands i.file l.stamp l.stands; set_is = l.set_is ∙ sym (v.sets i.file l.stamp l.stands); kind_is = l.kind_is ∙ sym (v.kinds i.file l.stamp l.stands) }

pub lies_stay : (c : Config) (n : ℕ) (x : Told) (older : List Line) → IsFollowed c older → MayTell c older x → VersionsStay c older (More n x older) → (f : Frame) (i : Instance) → WasBegun older f.me f.epoch i.inst i.file → (m : Mode) → LiesAs c older f i m → LiesAs c (More n x older) f i m
lies_stay c n x older h may v f i begun mode.Make l = (l.0, maker_stays c n x older h may f i begun l.0 l.1, l.2 ∙ ap (λ (o : Option Call). sites_made (packs_of c i.file.group) o) (sym words), l.3 ∙ ap kind_made (sym words), inr l.4)
  where
    inside : IsCallIn (entries older) f.epoch l.0
    inside = maker_in c older h f i l.0 l.1

    words : words_named (entries (More n x older)) (Some l.0) ≡ words_named (entries older) (Some l.0)
    words = ap (option_map (λ (w : Waiting). w.words)) (named_stays c n x older l.0 h may (inside.accepted, inside.named))
lies_stay c n x older h may v f i begun mode.Read l = plain_lies c n x older v i l
lies_stay c n x older h may v f i begun mode.Write l = plain_lies c n x older v i l
lies_stay c n x older h may v f i begun mode.Resolve l = plain_lies c n x older v i l
lies_stay c n x older h may v f i begun mode.Mend l = plain_lies c n x older v i l
