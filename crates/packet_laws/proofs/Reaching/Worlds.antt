-- What an event of the world adds: packets with their numbers, and lines.
use Rattle.std.proofs.Common.{◌≡◌, ◌≤◌, ℕ, ◌+◌, List, [], ◌∷◌, length, map, sym, subst, arith}
use Rattle.role_steps.proofs.Sending.{every_append}
use Rattle.locus_ids.specs.declared.config.Config.{Config}
use Rattle.wire_messages.specs.declared.body.Body.{Body}
use Rattle.wire_messages.specs.declared.body.Body.TheVariants as body
use Rattle.wire_messages.specs.declared.packet.Packet.{Packet}
use Rattle.role_steps.specs.Own.{Every}
use Rattle.role_steps.specs.Views.{Told}
use Rattle.the_run.specs.Runs.{packet_record}
use Rattle.the_run.specs.Worlds.{Numbered, World, happened, numbered_from, told_onto, with_numbered}
use Rattle.the_run.proofs.Boots.{every_weaker}
use Rattle.the_run.proofs.Events.{happened_keeps}
use Rattle.rest_laws.specs.of_store_laws.OneTree.Rest.{AllRest, IsRest}
use Rattle.rest_laws.proofs.of_store_laws.OneTree.Composing.{rest_before, rest_told}
use Rattle.run_laws.specs.Epochs.Forming.{FormsNone}
use Rattle.packet_laws.proofs.Fitting.FormingRun.{Good}
use Rattle.packet_laws.proofs.Fitting.Lists.{Forms, PacketComes}
use Rattle.packet_laws.proofs.Fitting.Meeting.{IsAddressed}
use Rattle.packet_laws.specs.Fitting.Counts.{CountsAreLow}
use Rattle.packet_laws.proofs.Reaching.Lines.{EachLow, Still}

-- ---- packets under way ----

-- a packet that forms no epoch goes to a site and a boot
abbrev pub Meant : Packet → Type 0
Meant p = FormsNone p.body → IsAddressed p

abbrev pub IsNumbered : ℕ → Numbered → Type 0
IsNumbered most x = ((1 ≤ x.number) × (x.number ≤ most)) × Meant x.packet

pub record Reached (c : Config) (w : World) : Type 0 where
  pub listed : Every (IsNumbered w.packets) w.underway
  pub lines : EachLow c w.trace

numbers_more : (m n : ℕ) → m ≤ n → (xs : List Numbered) → Every (IsNumbered m) xs → Every (IsNumbered n) xs
numbers_more m n le xs h = every_weaker (IsNumbered m) (IsNumbered n) xs (λ x k. ((k.0.0, omega (arith, le, k.0.1)), k.1)) h

new_numbers : (k most : ℕ) (ps : List Packet) → k + length ps ≤ most → Every Meant ps → Every (IsNumbered most) (numbered_from (k + 1) ps)
new_numbers k most [] le h = tt
new_numbers k most (p ∷ ps) le h = (((omega arith, omega (arith, le)), h.0), new_numbers (k + 1) most ps (omega (arith, le)) h.1)

-- ---- an event ----

-- where the counts of sites are low, and other laws give the rest of each line
abbrev pub Then : Config → World → Type 0
Then c w = CountsAreLow w → IsRest c w.trace → Reached c w

pub happened_reached : (c : Config) (n : ℕ) (ps : List Packet) (told : List Told) (change : World → World) (w : World) → (change w).underway ≡ w.underway →
    (CountsAreLow (change w) → IsRest c w.trace → AllRest c n w.trace told → Reached c w → Every Meant ps × EachLow c (told_onto n told w.trace)) → (IsRest c w.trace → Reached c w) → Then c (happened n ps told change w)
happened_reached c n ps told change w under gives g = happened_keeps (Then c) n ps told change w (λ low r. g r)
    (λ l low r. (let k : Reached c w = g r in record { listed = k.listed; lines = k.lines }))
    (λ k b t low r. (let old : IsRest c w.trace = rest_before c n told w.trace r in added (g old) (gives low old (rest_told c n told w.trace r) (g old)) b t))
  where
    added : Reached c w → Every Meant ps × EachLow c (told_onto n told w.trace) → (b t : ℕ) → Reached c (with_numbered (numbered_from (w.packets + 1) ps) (told_onto n told w.trace) (w.packets + length ps) b t (change w))
    added k new b t = record {
      listed = every_append (IsNumbered (w.packets + length ps)) (change w).underway (numbered_from (w.packets + 1) ps)
          (subst (λ (xs : List Numbered). Every (IsNumbered (w.packets + length ps)) xs) (sym under) (numbers_more w.packets (w.packets + length ps) (omega arith) w.underway k.listed))
          (new_numbers w.packets (w.packets + length ps) ps (omega arith) new.0);
      lines = new.1;
    }

-- ---- packets that are listed ----

-- one that forms an epoch goes to a site as well
addressed : (p : Packet) (b : Body) → Forms p b → (FormsNone b → IsAddressed p) → IsAddressed p
addressed p body.Poll f h = f
addressed p (body.Promise reach) f h = f.0
addressed p (body.Refuse theirs) f h = f
addressed p (body.Install members) f h = f.0
addressed p body.Joined f h = f
addressed p _ f h = h tt

listed_still : (most : ℕ) (xs : List Numbered) → most ≤ 134479872 → Every (IsNumbered most) xs → Every (λ (x : Numbered). PacketComes x.packet) xs → Every Still (map packet_record xs)
listed_still most [] le h k = tt
listed_still most (x ∷ xs) le h k = (
  record { least = h.0.0.0; most = omega (arith, le, h.0.0.1); from_site = k.0.0; to_site = (addressed x.packet x.packet.body k.0.2 h.0.1).0 },
  listed_still most xs le h.1 k.1,
)

pub underway_still : (c : Config) (w : World) → w.packets ≤ 134479872 → Good w → Reached c w → Every Still (map packet_record w.underway)
underway_still c w le good k = listed_still w.packets w.underway le k.listed good.underway
