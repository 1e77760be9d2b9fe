-- What the code's reply says.
use Rattle.va_lang.specs.Reply as replies
use Rattle.va_lang.specs.declared.reply.Reply.{Reply}
use Rattle.va_lang.specs.declared.reply.Reply.TheVariants as v

abbrev pub said : Reply → replies.Reply
said v.Created = replies.created
said (v.Placed place) = replies.placed place
said (v.Deleted place) = replies.deleted place
said (v.Vector vector) = replies.vector vector.now
said (v.Stat shape live cursors building) = replies.stat shape live cursors building
said (v.Marks marks) = replies.marks marks.now
said (v.Near pairs fetched candidates live) = replies.near pairs.now fetched candidates live
said (v.Scanned pairs fetched live) = replies.scanned pairs.now fetched live
said (v.Within pairs fetched live) = replies.within pairs.now fetched live
said (v.Opened live) = replies.opened live
said (v.Next pair fetched) = replies.next_pair pair fetched
said v.End = replies.at_end
said v.Closed = replies.closed
said (v.Building live) = replies.begun live
said (v.More done left) = replies.more_left done left
said (v.Switched done) = replies.switched done
said (v.Cert text) = replies.cert text.now
said (v.Work n fetched candidates sum) = replies.work n fetched candidates sum
said (v.Error why) = replies.error why
