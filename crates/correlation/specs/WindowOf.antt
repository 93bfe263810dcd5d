-- The window that a value of the program keeps.
use Rattle.correlation.specs.declared.sends.Sends.{Sends}
use Rattle.correlation.specs.Windows.{Window}

abbrev pub window_of : Sends → Window
window_of sends = record { next = sends.next; waiting = sends.waiting; owners = sends.owners.items; unsent = sends.unsent.items }
