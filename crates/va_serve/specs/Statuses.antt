-- How a run ended, for the one who started the program.
use Rattle.std.specs.Prelude.{ℕ, List, [], ◌++◌, codes, decimal}
use Rattle.va_serve.specs.declared.status.Status.{Status}
use Rattle.va_serve.specs.declared.status.Status.TheVariants.{Done, Usage, ReadFault, WriteFault, DiskFault, Store, Mismatch, Changed, Memory, TooLong}
use Rattle.va_store.specs.FaultTexts.{fault_text}

-- nothing for a run that is done
abbrev pub status_text : Status → List ℕ
status_text Done = []
status_text Usage = codes "usage: va_cli STORE [--csv] [--export] [--work N]"
status_text ReadFault = codes "read fault"
status_text WriteFault = codes "write fault"
status_text DiskFault = codes "disk fault"
status_text (Store fault) = codes "store: " ++ fault_text fault
status_text (Mismatch place dist low high) =
    codes "mismatch place " ++ decimal place ++ codes " dist " ++ decimal dist ++ codes " low " ++ decimal low ++ codes " high " ++ decimal high
status_text (Changed place) = codes "changed code " ++ decimal place
status_text Memory = codes "no memory"
status_text TooLong = codes "input too long"

abbrev pub status_code : Status → ℕ
status_code Done = 0
status_code Usage = 2
status_code ReadFault = 3
status_code WriteFault = 4
status_code DiskFault = 5
status_code (Store fault) = 6
status_code (Mismatch place dist low high) = 6
status_code (Changed place) = 6
status_code Memory = 7
status_code TooLong = 8
