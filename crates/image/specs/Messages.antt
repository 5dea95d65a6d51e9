-- The messages by the words of document 01.
use Rattle.paper.specs.State
use Rattle.image.specs.declared.Message.{Message}
use Rattle.image.specs.declared.Message.TheVariants.{None, Request, Acknowledgement}

-- the message of document 01 that a message is
abbrev pub carried : Message → State.Message
carried None = State.none
carried Request = State.request
carried Acknowledgement = State.acknowledgement
