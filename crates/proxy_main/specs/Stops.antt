-- Why a line was not answered is why its script is read no further.
use Rattle.proxy_main.specs.declared.stop.LineStop.{LineStop}
use Rattle.proxy_main.specs.declared.stop.LineStop.TheVariants as line_stop
use Rattle.proxy_main.specs.declared.stop.Stop.{Stop}
use Rattle.proxy_main.specs.declared.stop.Stop.TheVariants as stop

abbrev pub stop_of : LineStop → Stop
stop_of line_stop.BadLine = stop.BadLine
stop_of line_stop.NoMemory = stop.NoMemory
