-- What is due of a sheet's records, in the words of the definitions.
use Rattle.packets.specs.Sheet as sheet
use Rattle.reader.specs.declared.judge.Due.{Due}

abbrev pub due_of : Due → sheet.Due
due_of d = sheet.due d.resolutions d.components d.progressions
