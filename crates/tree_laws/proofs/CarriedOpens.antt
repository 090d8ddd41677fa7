-- What packets of opens carry stays when a line is added.
use Rattle.std.proofs.Common.{◌≡◌, ℕ, List, [], ◌∷◌, sym, ◌∙◌, ap, subst, ◌⊎◌, inl, inr}
use Rattle.the_run.proofs.of_plain_facts.Options.{some_same}
use Rattle.locus_ids.specs.declared.config.Config.{Config}
use Rattle.locus_ids.specs.declared.ids.CallId.{CallId}
use Rattle.locus_ids.specs.declared.ids.EpochId.{EpochId}
use Rattle.locus_ids.specs.declared.ids.FileId.{FileId}
use Rattle.locus_ids.specs.declared.ids.Mode.{Mode}
use Rattle.locus_ids.specs.declared.ids.Serial.{Serial}
use Rattle.trace_book.specs.declared.record.Record.{Record}
use Rattle.trace_book.specs.declared.record.Record.TheVariants as says
use Rattle.call_rules.specs.declared.want.Want.{Want}
use Rattle.call_rules.specs.declared.want.Want.TheVariants as want
use Rattle.the_run.specs.of_wire_messages.declared.body.Opening.{Opening}
use Rattle.the_run.specs.of_role_steps.Views.{Told, Shown}
use Rattle.the_run.specs.Worlds.{Line}
use Rattle.lawful_trace.specs.TreeRows.{IsCallIn}
use Rattle.tree_laws.specs.Printed.{entries}
use Rattle.tree_laws.specs.Calls.{Asks}
use Rattle.tree_laws.specs.Serials.{serial_asked}
use Rattle.tree_laws.specs.Past.{Was, Printed, WasNamed, WasNamedIn, NamesIt, NamesHere, NamingRecord}
use Rattle.tree_laws.specs.Instances.{AsksOpen, IsOpening}
use Rattle.tree_laws.specs.Following.{MayTell, IsFollowed, OpensInTime}
use Rattle.tree_laws.specs.Packets.{OpenFact, serial_of}
use Rattle.tree_laws.proofs.Scripts.{in_stays}
use Rattle.tree_laws.proofs.Asking.{AsksStill, StepRecord, StepOf, asks_stays}
use Rattle.tree_laws.proofs.CarriedLooks.{More, call_of_stays, one_epoch, one_want, number_same}

serial_eq : (a : Serial) (us serial : ℕ) → a.us ≡ us → a.serial ≡ serial → a ≡ serial_of us serial
serial_eq a us serial e f = λ i. record { us = e i; serial = f i }

-- an opening is of one group
pub opening_group : (c : Config) (w : Want) (f g : FileId) (a b : Opening) → IsOpening c w f a → IsOpening c w g b → f.group ≡ g.group
opening_group c (want.Open file m) f g a b o p = ap (λ (x : FileId). x.group) (o.0 ∙ sym p.0)
opening_group c (want.OpenToMend file) f g a b o p = ap (λ (x : FileId). x.group) (o.0 ∙ sym p.0)
opening_group c (want.Make group kind sites) f g a b o p = o.0 ∙ sym p.0
opening_group c (want.Look file what) f g a b o p = absurd o
opening_group c (want.Do i it) f g a b o p = absurd o
opening_group c (want.Close i) f g a b o p = absurd o
opening_group c (want.Give r) f g a b o p = absurd o
opening_group c want.Never f g a b o p = absurd o

-- an open in its time, of a call that asks this one, names its serial number in the group of its file
names_now : (c : Config) (older : List Line) (e at : EpochId) (us serial : ℕ) (d call : CallId) (request number : ℕ) (i : Serial) (m : Mode) (f file : FileId) (it : Opening) →
    d.site ≡ us → AsksOpen c older e d request serial f it → call ≡ d → IsCallIn (entries older) at call → OpensInTime c older at call number i m file → NamesIt e (serial_of us serial) at i × (file.group ≡ f.group)
names_now c older e at us serial d call request number i m f file it site k step inside o = (
  record {
    epoch_is = one_epoch older at e d (subst (λ (y : CallId). IsCallIn (entries older) at y) step inside) k.inside;
    serial_is = serial_eq i us serial (o.user_is ∙ (ap (λ (y : CallId). y.site) step ∙ site)) (o.asks.serial_is ∙ (ap (serial_asked c older) step ∙ sym k.serial_is));
  },
  o.group_is ∙ opening_group c k.wanted o.asked f o.it it (subst (λ (w : Want). IsOpening c w o.asked o.it) (one_want c older d o.asks.wanted k.wanted (subst (λ (y : CallId). Asks c older y o.asks.wanted) step o.asks.asks) k.asks) o.asks.opening_is) k.opening_is,
)

opened_now : (c : Config) (older : List Line) (e : EpochId) (us serial : ℕ) (d : CallId) (request : ℕ) (f : FileId) (it : Opening) (r : Record) → MayTell c older (Shown r) → d.site ≡ us → AsksOpen c older e d request serial f it → StepRecord (entries older) r d → NamesHere e f.group (serial_of us serial) older r
opened_now c older e us serial d request f it (says.Grant at call number i m file stamp ss) may site k step = names_now c older e at us serial d call request number i m f file it site k step may.row.opens.step may.in_time.opens
opened_now c older e us serial d request f it (says.Refuse at call number i m file why) may site k step = names_now c older e at us serial d call request number i m f file it site k step may.row.opens.step may.in_time.opens
opened_now c older e us serial d request f it (says.Look at call number file what result) may site k step = absurd (subst (λ (y : Want). IsOpening c y f it) (one_want c older d k.wanted (want.Look file what) k.asks (subst (λ (y : CallId). Asks c older y (want.Look file what)) step may.in_time.asks)) k.opening_is)
opened_now c older e us serial d request f it (says.Act at i number o result) may site k step = absurd (subst (λ (y : Want). IsOpening c y f it) (one_want c older d k.wanted (want.Do i o) k.asks (subst (λ (y : CallId). Asks c older y (want.Do i o)) (some_same may.in_time.call d (sym may.in_time.owner ∙ step)) may.in_time.asks)) k.opening_is)
opened_now c older e us serial d request f it (says.Release at i file stamp) may site k step = absurd (subst (λ (y : Want). IsOpening c y f it) (one_want c older d k.wanted (want.Close i) k.asks (subst (λ (y : CallId). Asks c older y (want.Close i)) (some_same may.in_time.call d (sym may.in_time.owner ∙ step)) may.in_time.asks)) k.opening_is)
opened_now c older e us serial d request f it _ may site k step = absurd step

-- an open that is asked now is asked still, or named
pub asked_in : (c : Config) (n : ℕ) (x : Told) (older : List Line) (e : EpochId) (us serial : ℕ) (d : CallId) (request : ℕ) (f : FileId) (it : Opening) → IsFollowed c older → MayTell c older x → d.site ≡ us → AsksOpen c older e d request serial f it →
    WasNamedIn (More n x older) e f.group (serial_of us serial) ⊎ AsksOpen c (More n x older) e d request serial f it
asked_in c n x older e us serial d request f it h may site k = over x may (in_stays c n x older e d h may k.inside) (asks_stays c n x older d k.wanted h may (k.inside.accepted, k.inside.named) k.asks)
  where
    over : (y : Told) → MayTell c older y → IsCallIn (entries (More n y older)) e d → AsksStill c older n y d k.wanted ⊎ StepOf older y d → WasNamedIn (More n y older) e f.group (serial_of us serial) ⊎ AsksOpen c (More n y older) e d request serial f it
    over y m inside (inl s) = inr (record { wanted = k.wanted; asks = s.asks; opening_is = k.opening_is; inside = inside; request_is = k.request_is ∙ number_same n y older d s.log_same; serial_is = k.serial_is ∙ sym s.serial_is })
    over (Shown r) m inside (inr s) = inl (inl (opened_now c older e us serial d request f it r m site k s))
    over _ m inside (inr s) = absurd s

-- ---- named in a group, and named at all ----

-- what was so once is so in other words
pub was_then : (P Q : List Line → Told → Type 0) → ((older : List Line) (x : Told) → P older x → Q older x) → (trace : List Line) → Was P trace → Was Q trace
was_then P Q then [] w = w
was_then P Q then (x ∷ older) (inl p) = inl (then older x.told p)
was_then P Q then (x ∷ older) (inr q) = inr (was_then P Q then older q)

named_once : (e : EpochId) (group : ℕ) (i : Serial) (older : List Line) (x : Told) → Printed (NamesHere e group i) older x → Printed (NamingRecord e i) older x
named_once e group i older (Shown (says.Grant at call number inst m g on place)) p = p.0
named_once e group i older (Shown (says.Refuse at call number inst m g why)) p = p.0
named_once e group i older (Shown r) p = absurd p
named_once e group i older x p = absurd p

pub named_of : (trace : List Line) (e : EpochId) (group : ℕ) (i : Serial) → WasNamedIn trace e group i → WasNamed trace e i
named_of trace e group i w = was_then (Printed (NamesHere e group i)) (Printed (NamingRecord e i)) (named_once e group i) trace w

pub asked_told : (c : Config) (n : ℕ) (x : Told) (older : List Line) (e : EpochId) (us serial : ℕ) (d : CallId) (request : ℕ) (f : FileId) (it : Opening) → IsFollowed c older → MayTell c older x → d.site ≡ us → AsksOpen c older e d request serial f it →
    WasNamed (More n x older) e (serial_of us serial) ⊎ AsksOpen c (More n x older) e d request serial f it
asked_told c n x older e us serial d request f it h may site k = over (asked_in c n x older e us serial d request f it h may site k)
  where
    over : WasNamedIn (More n x older) e f.group (serial_of us serial) ⊎ AsksOpen c (More n x older) e d request serial f it → WasNamed (More n x older) e (serial_of us serial) ⊎ AsksOpen c (More n x older) e d request serial f it
    over (inl p) = inl (named_of (More n x older) e f.group (serial_of us serial) p)
    over (inr q) = inr q

pub open_stays : (c : Config) (n : ℕ) (x : Told) (older : List Line) → IsFollowed c older → MayTell c older x → (e : EpochId) (us serial k process request : ℕ) (f : FileId) (it : Opening) → OpenFact c older e us serial k process request f it → OpenFact c (More n x older) e us serial k process request f it
open_stays c n x older h may e us serial k process request f it l = record {
  call = l.call;
  is_call = call_of_stays c n x older h may e us k process l.call l.is_call;
  stands = over l.stands;
}
  where
    over : WasNamedIn older e f.group (serial_of us serial) ⊎ AsksOpen c older e l.call request serial f it → WasNamedIn (More n x older) e f.group (serial_of us serial) ⊎ AsksOpen c (More n x older) e l.call request serial f it
    over (inl p) = inl (inr p)
    over (inr k) = asked_in c n x older e us serial l.call request f it h may l.is_call.site_is k
