mod Records
mod Lining
mod Numbers
mod LineExamples
