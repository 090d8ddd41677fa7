use Rattle.packet_laws.proofs.Formats.Run.{run_packets}
use Rattle.packet_laws.proofs.packet_format_laws.next_packets_fit.Goals as goal

pub returns : goal.returns
returns c = λ config lines fit packs few s v e here may fact. run_packets config lines fit packs few s v e here may fact
