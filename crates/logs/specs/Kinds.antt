-- What a log of either kind means: what the log inside means.
use Rattle.message_log.specs.Meaning.{Meaning}
use Rattle.logs.specs.contracts.indexing.IndexedLog.TheImpl.{ghosts as indexed_log}
use Rattle.logs.specs.contracts.journals.entries.JournalLog.TheImpl.{ghosts as journal_log}
use Rattle.logs.specs.declared.any.AnyLog.{AnyLog}
use Rattle.logs.specs.declared.any.AnyLog.TheVariants.{Journal, Indexed}

abbrev pub inside : AnyLog → Meaning
inside (Journal s) = journal_log.view s
inside (Indexed s) = indexed_log.view s
